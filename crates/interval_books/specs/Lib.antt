pub mod Bookings
pub mod Books
