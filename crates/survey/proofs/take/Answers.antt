use native.Mathlib.Omega.{arith}
use Rattle.survey.proofs.Laws.{take_few, take_marked, take_numbered, take_small, take_store, taken_many, taken_other}
use borrow.Author.Rules.{rules}
use Rattle.survey.proofs.take.Goals as goal

pub number-j-requires : goal.number-j-requires
number-j-requires c = record { few = take_few _ _ _ _ _ _ _ _ _ _ _ c.requires (search rules); marked = take_marked _ _ _ _ _ _ _ _ _ _ _ c.requires (search rules); numbered = search take_numbered }

pub overflow_add-j : goal.overflow_add-j
overflow_add-j c = search (rules, take_small _ _ _ _ _ _ _ _ _ _ _ c.requires _ _ _ _ (search rules) c.number-j.ensures)

pub store_name-requires : goal.store_name-requires
store_name-requires c = search take_store

pub returns : goal.returns
returns c = record { cached = search rules; taken = grind (arith, taken_many, taken_other) }
