-- A run's settings and its plan; behind them what the refusals leave of a plan.
pub mod Plan
pub mod Fair
