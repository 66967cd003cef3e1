-- Relations on numbers, their closures and circles; and the same for lists of pairs.
pub mod Closure
