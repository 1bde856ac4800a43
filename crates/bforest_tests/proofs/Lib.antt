pub mod AfterReserving
pub mod Ranges
pub mod Roomy
pub mod Stepping
pub mod Thinned
