pub mod FieldLemmas
pub mod ItemLemmas
pub mod ListLemmas
pub mod ValueLemmas
pub mod PacketLemmas
pub mod DecodeLemmas
pub mod LawLemmas
