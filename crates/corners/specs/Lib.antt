-- What lent columns mean, and the trees and columns that hold them.
pub mod Lent
pub mod Trees
