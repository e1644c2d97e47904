use Rattle.token_cache.proofs.Laws.{store_packs, name_stored, name_notes}
use borrow.Author.Rules.{rules}
use Rattle.token_cache.proofs.store_name.Goals as goal

pub set_entry-requires : goal.set_entry-requires
set_entry-requires c = search store_packs

pub returns : goal.returns
returns c = record { entry = search rules; cached = search name_stored; notes = search name_notes }
