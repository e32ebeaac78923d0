pub mod KindTests
