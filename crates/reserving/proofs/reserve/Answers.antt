use mathlib.Core.Path.{◌≡◌, ◌∙◌, sym}
use mathlib.Core.Bool.{true, false}
use Rattle.std.specs.Prelude.{is_ok}
use Rattle.reserving.proofs.Laws.{reserve_full, reserve_room, reserve_reckons, count_full, count_room, count_reckons, collect_full, collect_reserves, collect_reckons}
use Rattle.reserving.proofs.reserve.Goals as goal

pub seek-requires : goal.seek-requires
seek-requires c = search reserve_full

pub returns-then-is_ok : goal.returns-then-is_ok
returns-then-is_ok c =
    let ok : is_ok (c.add-a.result).end ≡ true = sym c.is_ok.ensures.value ∙ c.if-is_ok.true in
    record { exact = search reserve_room; knows = search reserve_reckons }

pub seek-requires-then-is_ok-2 : goal.seek-requires-then-is_ok-2
seek-requires-then-is_ok-2 c =
    let ok : is_ok (c.add-b.result).end ≡ true = sym c.is_ok-2.ensures.value ∙ c.if-is_ok-2.true in
    count_full _ _ _ _ _ c.requires.knows_2 _ c.frame_limit-limit.ensures _ _ c.count_frames-frames.ensures c.count_texts.ensures _ c.add-b.ensures ok

pub returns-then-is_ok-2 : goal.returns-then-is_ok-2
returns-then-is_ok-2 c =
    let ok : is_ok (c.add-b.result).end ≡ true = sym c.is_ok-2.ensures.value ∙ c.if-is_ok-2.true in
    record { exact = count_room _ _ _ _ _ c.requires.knows_2 _ c.frame_limit-limit.ensures _ _ c.count_frames-frames.ensures c.count_texts.ensures _ c.add-b.ensures ok _ c.seek-then-is_ok-2.ensures; knows = count_reckons _ _ _ _ _ c.requires.knows_2 _ c.frame_limit-limit.ensures _ _ c.count_frames-frames.ensures c.count_texts.ensures _ c.add-b.ensures ok _ c.seek-then-is_ok-2.ensures }

pub seek-requires-2 : goal.seek-requires-2
seek-requires-2 c =
    let not_ok : is_ok (c.add-b.result).end ≡ false = sym c.is_ok-2.ensures.value ∙ c.if-is_ok-2.false in
    collect_full _ _ _ _ _ c.requires.knows_2 _ c.frame_limit-limit.ensures _ _ c.count_frames-frames.ensures c.count_texts.ensures _ c.add-b.ensures not_ok _ _ c.collect_heap-n.ensures.exact _ c.add.ensures

pub returns : goal.returns
returns c =
    let not_ok : is_ok (c.add-b.result).end ≡ false = sym c.is_ok-2.ensures.value ∙ c.if-is_ok-2.false in
    record { exact = collect_reserves _ _ _ _ _ c.requires.knows_2 _ c.frame_limit-limit.ensures _ _ c.count_frames-frames.ensures c.count_texts.ensures _ c.add-b.ensures not_ok _ _ c.collect_heap-n.ensures.exact _ c.add.ensures _ c.seek-2.ensures; knows = collect_reckons _ _ _ _ _ c.requires.knows_2 _ c.frame_limit-limit.ensures _ _ c.count_frames-frames.ensures c.count_texts.ensures _ c.add-b.ensures not_ok _ _ c.collect_heap-n.ensures.exact _ c.add.ensures _ c.seek-2.ensures }
