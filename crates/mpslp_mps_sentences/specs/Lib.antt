pub mod TextInWords
pub mod FaultsInWords
pub mod ValueFaultsInWords
pub mod Laws
