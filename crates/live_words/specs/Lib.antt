pub mod LiveReaders
pub mod LiveOptionWords
pub mod LiveWords
