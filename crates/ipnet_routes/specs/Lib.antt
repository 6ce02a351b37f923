-- The definitions that the contracts of this crate use.
pub mod Routes
pub mod RouteValues
pub mod RouteSteps
pub mod RoutesOf
pub mod MatchesLeft
pub mod RouteMaps
pub mod RouteLends
pub mod RouteMapSteps
pub mod RouteLengths
pub mod RouteMapsOf
pub mod RouteMapsLeft
pub mod TableImages
