pub mod Room
pub mod Units
pub mod RoomLaws
pub mod AboveLaws
pub mod PlaceLaws
pub mod MoveLaws
pub mod UnitLaws
