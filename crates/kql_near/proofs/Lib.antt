mod Standing
mod Named
