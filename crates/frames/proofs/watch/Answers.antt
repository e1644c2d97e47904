use Rattle.frames.proofs.Laws.{watch_low, watch_high, watch_spoilt, watch_path, watch_slot, watch_square, watch_curly, watch_other}
use Rattle.frames.proofs.watch.Goals as goal

pub returns-then-k-lt12 : goal.returns-then-k-lt12
returns-then-k-lt12 c = search watch_low

pub returns-then-k-gt25 : goal.returns-then-k-gt25
returns-then-k-gt25 c = search watch_high

pub returns-then-not-clean : goal.returns-then-not-clean
returns-then-not-clean c = search watch_spoilt

pub returns-then-last-eq7 : goal.returns-then-last-eq7
returns-then-last-eq7 c = search watch_path

pub returns-then-k-eq25 : goal.returns-then-k-eq25
returns-then-k-eq25 c = search watch_slot

pub returns-then-k-eq12 : goal.returns-then-k-eq12
returns-then-k-eq12 c = search watch_square

pub returns-then-k-eq14 : goal.returns-then-k-eq14
returns-then-k-eq14 c = search watch_curly

pub returns : goal.returns
returns c = search watch_other
