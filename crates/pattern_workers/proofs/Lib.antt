pub mod CrossingLaws
pub mod RangeFacts
