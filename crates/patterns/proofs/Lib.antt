pub mod RoomLaws
pub mod PriceLaws
