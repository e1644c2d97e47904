use Rattle.step_join.proofs.Laws.{number_first, number_second, number_on}
use borrow.Author.Rules.{rules}
use Rattle.step_join.proofs.assign_join.Goals as goal

pub returns-then-m-eq5 : goal.returns-then-m-eq5
returns-then-m-eq5 c = search number_first

pub returns-then-n-eq5 : goal.returns-then-n-eq5
returns-then-n-eq5 c = search number_second

pub join_values-requires : goal.join_values-requires
join_values-requires c =
    record {
      joins_values =
          number_on _ _ _ _ _ c.requires.can_assign_join _ c.instruction_c-x.ensures _ c.expression_a.ensures
          _ c.operand_number-m.ensures c.if-m-eq5.false _ c.expression_b.ensures _ c.operand_number-n.ensures
          c.if-n-eq5.false _ _ c.value-v.ensures c.value-w.ensures;
      texts_full = search rules;
    }
