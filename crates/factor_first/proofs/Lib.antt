pub mod FirstRows
pub mod BlockReady
pub mod BlockGrowth
pub mod BlockTurn
pub mod DensePass
pub mod TwoParts
