pub mod Cuts
pub mod Joins
pub mod Tops
pub mod WordOrders
