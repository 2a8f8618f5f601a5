pub mod Bless
pub mod Change
pub mod CommonLengths
pub mod Differences
pub mod Line
pub mod Printed
pub mod Shortest
