-- Figures: what a window's figures are, worked out afresh. Push: what one record does, a whole series, and the promise of `push`.
-- Ring: places and slots of the ring. Series: the figures after any series. Example: a small series, computed.
pub mod Figures
pub mod Push
pub mod Ring
pub mod Series
pub mod Example
