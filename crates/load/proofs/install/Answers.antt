use Rattle.load.proofs.Laws.{install_can_emit, install_can_start, install_done}
use borrow.Author.Rules.{rules}
use Rattle.load.proofs.install.Goals as goal

pub emit-requires : goal.emit-requires
emit-requires c = record { kept = search rules; placed = search rules; can = search install_can_emit }

pub start-requires : goal.start-requires
start-requires c =
    install_can_start _ _ _ _ _ _ _ c.requires.can _ _ _ _ c.emit.ensures c.clear_words.ensures c.clear_bytes.ensures

pub returns : goal.returns
returns c = search (install_done, c.requires.can)
