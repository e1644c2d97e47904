use mathlib.Core.Path.{◌∙◌}
use Rattle.write_words.proofs.Words.{name_past, name_end, name_fits, name_written}
use Rattle.write_words.proofs.write_name.Goals as goal

pub returns-then-size-at : goal.returns-then-size-at
returns-then-size-at c = search name_past

pub slice_bounds-copy_words-end : goal.slice_bounds-copy_words-end
slice_bounds-copy_words-end c = name_end _ _ c.requires c.args.m.now _ _ _ _ c.wide.ensures (c.wide-2.ensures ∙ c.name_length.ensures) c.min-n.ensures

pub copy_words-requires : goal.copy_words-requires
copy_words-requires c = name_fits _ _ c.requires c.args.m.now _ _ _ _ c.wide.ensures (c.wide-2.ensures ∙ c.name_length.ensures) c.min-n.ensures c.if-size-at.false

pub returns : goal.returns
returns c = name_written _ _ c.requires c.args.m.now _ _ _ _ c.wide.ensures (c.wide-2.ensures ∙ c.name_length.ensures) c.min-n.ensures c.if-size-at.false _ c.copy_words.ensures
