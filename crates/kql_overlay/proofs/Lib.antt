pub mod AboveFacts
