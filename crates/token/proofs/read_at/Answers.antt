use Rattle.token.proofs.Laws.{name_begins, digit_begins, read_a_name, read_a_natural, read_a_string, read_a_mark, minus_begins, read_a_negative, read_a_minus, zero_class}
use borrow.Author.Rules.{rules}
use Rattle.token.proofs.read_at.Goals as goal
use Rattle.token.proofs.read_at.Goals.{then-b-eq45+else-j-eq3, else-b-eq45}

pub name_at-requires : goal.name_at-requires
name_at-requires c = record { table = search rules; run = search name_begins }

pub returns-then-k-eq2 : goal.returns-then-k-eq2
returns-then-k-eq2 c = search read_a_name

pub natural_at-requires : goal.natural_at-requires
natural_at-requires c = record { table = search rules; run = search digit_begins }

pub returns-then-k-eq3 : goal.returns-then-k-eq3
returns-then-k-eq3 c = search read_a_natural

pub returns-then-b-eq34 : goal.returns-then-b-eq34
returns-then-b-eq34 c = search read_a_string

pub negative_at-requires : goal.negative_at-requires
negative_at-requires c = record {
  table = search rules;
  run = minus_begins _ _ _ _ _ c.byte_at-d.ensures c.class_in-j.ensures c.if-j-eq3.true zero_class;
}

pub returns-then-j-eq3 : goal.returns-then-j-eq3
returns-then-j-eq3 c = search (read_a_negative, zero_class)

pub returns : goal.returns
returns c = elim c.if-b-eq45.branch [ then-b-eq45+else-j-eq3 w ↦ search (read_a_minus, zero_class) | else-b-eq45 w ↦ search read_a_mark ]
