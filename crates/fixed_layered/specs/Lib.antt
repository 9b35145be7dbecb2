-- The layered iteration on memory. A column with its scratch rows, where a run's checks stand in them, what a run counts on and what the rows hold once its
-- messages are sent (Full, Order, RunMemory, Sent). What a variable gathers, that its sums fit, and a row's variables gathered and settled (Gather, Bounds, Sums,
-- Rows). The column laws of runs and layers, of a run by its checks, and of the iteration (Layers, Checks, Layered).
pub mod Full
pub mod Order
pub mod RunMemory
pub mod Sent
pub mod Gather
pub mod Bounds
pub mod Sums
pub mod Rows
pub mod Layers
pub mod Checks
pub mod Layered
