use Rattle.token_cache.proofs.Laws.{store_packs, stored, stored_notes}
use borrow.Author.Rules.{rules}
use Rattle.token_cache.proofs.store.Goals as goal

pub set_entry-requires : goal.set_entry-requires
set_entry-requires c = search store_packs

pub returns : goal.returns
returns c = record { entry = search rules; cached = search stored; notes = search stored_notes }
