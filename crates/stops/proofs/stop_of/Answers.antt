use Rattle.stops.proofs.Laws.{stop_done, stop_31, stop_32, stop_33, stop_34, stop_35, stop_36, stop_37}
use Rattle.stops.proofs.stop_of.Goals as goal

pub returns-then-e-eq0 : goal.returns-then-e-eq0
returns-then-e-eq0 c = search stop_done

pub returns-then-e-eq31 : goal.returns-then-e-eq31
returns-then-e-eq31 c = search stop_31

pub returns-then-e-eq32 : goal.returns-then-e-eq32
returns-then-e-eq32 c = search stop_32

pub returns-then-e-eq33 : goal.returns-then-e-eq33
returns-then-e-eq33 c = search stop_33

pub returns-then-e-eq34 : goal.returns-then-e-eq34
returns-then-e-eq34 c = search stop_34

pub returns-then-e-eq35 : goal.returns-then-e-eq35
returns-then-e-eq35 c = search stop_35

pub returns-then-e-eq36 : goal.returns-then-e-eq36
returns-then-e-eq36 c = search stop_36

pub returns : goal.returns
returns c = search stop_37
