use borrow.Author.Rules.{rules}
use Rattle.write.proofs.Laws.{own_size, can_measure, through_short, front_size, through_copied, can_write, through_again}
use Rattle.write.proofs.write_through.Goals as goal

pub slice_bounds-program_text-end-2 : goal.slice_bounds-program_text-end-2
slice_bounds-program_text-end-2 c = own_size _ _ _ c.min-size.ensures

pub program_text-n-requires : goal.program_text-n-requires
program_text-n-requires c = can_measure _ _ _ _ _ _ c.requires (search rules) c.min-size.ensures

pub returns-then-limit-n : goal.returns-then-limit-n
returns-then-limit-n c = through_short _ _ _ _ _ _ _ (search rules) c.min-size.ensures c.program_text-n.ensures c.if-limit-n.true

pub slice_bounds-write-end-then-n-size : goal.slice_bounds-write-end-then-n-size
slice_bounds-write-end-then-n-size c =
    front_size _ c.args.out.now _ _ _ _ _ (search rules) c.min-size.ensures c.program_text-n.ensures c.if-n-size.true

pub returns-then-n-size : goal.returns-then-n-size
returns-then-n-size c =
    through_copied _ _ _ _ _ _ _ (search rules) c.min-size.ensures c.program_text-n.ensures c.if-limit-n.false c.if-n-size.true
    c.write.ensures

pub program_text-requires : goal.program_text-requires
program_text-requires c = can_write _ _ _ _ _ c.requires (search rules) (search rules)

pub returns : goal.returns
returns c =
    through_again _ _ _ _ _ _ _ (search rules) c.min-size.ensures c.program_text-n.ensures c.if-limit-n.false c.program_text.ensures
