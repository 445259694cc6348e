mod CountLaws
mod ReadLaws
