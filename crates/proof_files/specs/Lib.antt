pub mod Lists
pub mod Rooms
