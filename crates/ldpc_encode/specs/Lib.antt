-- The sums that the code keeps on its way.
pub mod Sums
