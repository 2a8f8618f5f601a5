mod ArgumentsLaws
mod CommandLaws
mod SessionLaws
mod EndLaws
mod GivenTextLaws
mod ItemLaws
mod RecordsLaws
