-- What the sets say of meant and followed bits: what is nullable, where bits end and with what they begin, keys,
-- where parts are reached and what stands behind them.
pub mod LeastSets
pub mod ShapeFacts
pub mod NullableFacts
pub mod EndsFacts
pub mod StartFacts
pub mod FollowFacts
pub mod ReachFacts
pub mod EmptyKeys
pub mod KeyFacts
pub mod KeyMeant
pub mod Extensions
pub mod NearFacts
pub mod KeyFollowed
