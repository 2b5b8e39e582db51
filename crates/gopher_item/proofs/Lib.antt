pub mod PlaceLemmas
pub mod PackedPlaces
pub mod MenuLines
pub mod FieldLemmas
pub mod MenuLemmas
pub mod ReadBack
