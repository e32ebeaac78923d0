pub mod Matches
pub mod NumberKeys
pub mod Numbers
pub mod Places
pub mod TextKeys
