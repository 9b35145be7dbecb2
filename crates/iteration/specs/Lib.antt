-- One word, apart from memory. Definitions: a value, a check, an iteration (Value, Check, Iteration); the code by its lists and by n, row
-- lengths and addresses (Lists, Code); unsatisfied checks counted (Count); the checks of a run (Once); a run with its scratch rows (Full).
-- Laws: each check is in one run of a layered iteration (Covers), the two smallest magnitudes (Least, Smallest), a run whose variables have one edge
-- each is its checks in turn (InTurn).
pub mod Value
pub mod Check
pub mod Iteration
pub mod Lists
pub mod Code
pub mod Count
pub mod Once
pub mod Full
pub mod CheckLaws
pub mod Least
pub mod Smallest
pub mod Covers
pub mod ListsLaws
pub mod CodeLaws
pub mod CountLaws
pub mod InTurn
