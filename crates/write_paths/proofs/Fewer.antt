-- The symbols of a tree as it is written again are those of the tree without some. Assumes nothing.
use mathlib.Core.Path.{◌≡◌, refl, ◌∙◌, sym}
use mathlib.Core.Bool.{Bool, true, false, true≢false}
use mathlib.Core.List.{List, [], ◌∷◌, ◌++◌, append_assoc, append-nil}
use Prim.Native.Nat.{ℕ, zero, suc, ◌-◌, ◌≤◌}
use native.Mathlib.Omega.{arith}
use lib.ListN.{length, take, drop}
use lib.Dec.{eqb, leb}
use borrow.Author.Tests.{eq-eqb, leb-true, leb-false}
use Rattle.framed.specs.Common.{◌∈◌, here, later}
use Rattle.framed.specs.Tokens.{Fixed}
use Rattle.framed.specs.Symbols.{Symbol}
use Rattle.framed.specs.Tree.{Written, Base, Expression, Slots, Instruction, Code, ◌then◌}
use Rattle.framed.specs.Paths.{Place, outside_code, in_code, holder, within_slot, within_code, names_up, resolve_path, program_place}
use Rattle.framed.specs.Writer.{common_prefix, written_path}
use Rattle.framed.proofs.Lists.{none, cases}
use Rattle.framed.proofs.PathWritten.{is_shared, path_written}
use Rattle.write_symbols.specs.Order.{MayGo, seen_after, Without}
use Rattle.write_symbols.specs.Symbols.{mark, dotted_symbols, climb_symbols, path_symbols, base_symbols, expression_symbols, slots_symbols, further_symbols, instruction_symbols, code_symbols, frame_symbols}
use Rattle.write_paths.specs.Rewriting.{rewritten_path, rewritten_base, rewritten_expression, rewritten_slots, rewritten_instruction, rewritten_code}
use Rattle.write_paths.specs.Theorems.{FewerSymbols}

-- ---- Symbols that may go wherever the names `known` have appeared

-- each name of the second list is in the first
abbrev Has : List ℕ → List ℕ → Type 0
Has known ns = (n : ℕ) → n ∈ ns → n ∈ known

-- the second list is the first without some, whatever follows
record Fewer (known : List ℕ) (ts us : List Symbol) : Type 0 where
  before : (seen : List ℕ) → Has seen known → (rest rest' : List Symbol) → ((after : List ℕ) → Has after seen → Without after rest rest') →
      Without seen (ts ++ rest) (us ++ rest')

still : {seen : List ℕ} {n : ℕ} (t : Symbol) → n ∈ seen → n ∈ seen_after seen t
unfolding seen_after
still (Symbol.name m) i = later i
still (Symbol.integer z) i = i
still (Symbol.string k) i = i
still (Symbol.code k) i = i
still (Symbol.fixed f) i = i

goes : {seen known : List ℕ} {t : Symbol} → Has seen known → MayGo known t → MayGo seen t
goes h MayGo.comma = MayGo.comma
goes h MayGo.dot = MayGo.dot
goes h MayGo.up = MayGo.up
goes h (MayGo.name i) = MayGo.name (h _ i)

module _ {known : List ℕ} where
  nothing : Fewer known [] []
  nothing = record { before = λ seen h rest rest' f. f seen (λ n i. i) }

  keep : (t : Symbol) {ts us : List Symbol} → Fewer known ts us → Fewer known (t ∷ ts) (t ∷ us)
  keep t x = record {
    before = λ seen h rest rest' f.
        Without.kept (x.before (seen_after seen t) (λ n i. still t (h n i)) rest rest' (λ after g. f after (λ n i. g n (still t i))));
  }

  -- a name has appeared from then on
  named : (n : ℕ) {ts us : List Symbol} → Fewer (n ∷ known) ts us → Fewer known (Symbol.name n ∷ ts) (Symbol.name n ∷ us)
  unfolding seen_after
  named n x = record {
    before = λ seen h rest rest' f. Without.kept (x.before (n ∷ seen) (one_more seen h) rest rest' (λ after g. f after (λ m i. g m (later i))));
  }
    where
      one_more : (seen : List ℕ) → Has seen known → Has (n ∷ seen) (n ∷ known)
      one_more seen h m here = here
      one_more seen h m (later i) = later (h m i)

  leave : {t : Symbol} {ts us : List Symbol} → MayGo known t → Fewer known ts us → Fewer known (t ∷ ts) us
  leave g x = record { before = λ seen h rest rest' f. Without.gone (goes h g) (x.before seen h rest rest' f) }

  both : {ts us vs ws : List Symbol} → Fewer known ts us → Fewer known vs ws → Fewer known (ts ++ vs) (us ++ ws)
  both {ts} {us} {vs} {ws} x y = record {
    before = λ seen h rest rest' f.
        rw (append_assoc ts vs rest, append_assoc us ws rest')
        (x.before seen h (vs ++ rest) (ws ++ rest') (λ after g. y.before after (λ n i. g n (h n i)) rest rest' (λ last k. f last (λ n i. k n (g n i)))));
  }

  all_kept : (ts : List Symbol) → Fewer known ts ts
  all_kept [] = nothing
  all_kept (t ∷ ts) = keep t (all_kept ts)

  -- ---- A path

  climbs_fewer : (k j : ℕ) → j ≤ k → Fewer known (climb_symbols k) (climb_symbols j)
  unfolding climb_symbols
  climbs_fewer zero zero le = nothing
  climbs_fewer zero (suc j) le = absurd (omega arith)
  climbs_fewer (suc k) zero le = leave MayGo.dot (leave MayGo.up (climbs_fewer k zero (omega arith)))
  climbs_fewer (suc k) (suc j) le = keep (mark Fixed.dot) (keep (mark Fixed.up) (climbs_fewer k j (omega arith)))

  names_fewer : (j : ℕ) (ns : List ℕ) → Has known (take j ns) → Fewer known (dotted_symbols ns) (dotted_symbols (drop j ns))
  unfolding dotted_symbols
  names_fewer zero ns h = all_kept (dotted_symbols ns)
  names_fewer (suc j) [] h = nothing
  names_fewer (suc j) (n ∷ ns) h = leave MayGo.dot (leave (MayGo.name (h n here)) (names_fewer j ns (λ m i. h m (later i))))

-- what a list that begins with the first m of hs shares with hs beyond these are names of hs
record LeftOut (hs ns : List ℕ) (m : ℕ) : Type 0 where
  many : ℕ
  names : drop (common_prefix hs (take m hs ++ ns)) (take m hs ++ ns) ≡ drop many ns
  known : Has hs (take many ns)

taken : (k : ℕ) (ns : List ℕ) → Has ns (take k ns)
taken zero ns n i = none i
taken (suc k) [] n i = none i
taken (suc k) (m ∷ ns) n here = here
taken (suc k) (m ∷ ns) n (later i) = later (taken k ns n i)

left_out : (hs ns : List ℕ) (m : ℕ) → LeftOut hs ns m
unfolding common_prefix
left_out hs ns zero = record {
  many = common_prefix hs ns;
  names = refl;
  known = λ n i. taken (common_prefix hs ns) hs n (rw (is_shared hs ns) i);
}
left_out [] ns (suc m) = record { many = 0; names = refl; known = λ n i. none i }
left_out (h ∷ hs) ns (suc m) = go (left_out hs ns m)
  where
    step : (t : Bool) → t ≡ true → drop (elim t [ true ↦ suc (common_prefix hs (take m hs ++ ns)) | false ↦ 0 ]) (h ∷ take m hs ++ ns)
        ≡ drop (common_prefix hs (take m hs ++ ns)) (take m hs ++ ns)
    step true e = refl
    step false e = absurd (true≢false (sym e))

    go : LeftOut hs ns m → LeftOut (h ∷ hs) ns (suc m)
    go x = record { many = x.many; names = step (eqb h h) (eq-eqb h h refl) ∙ x.names; known = λ n i. later (x.known n i) }

-- also where the path climbs above the program frame
climbs_most : (place : Place) (k : ℕ) (ns : List ℕ) → length (holder place) - common_prefix (holder place) (names_up (holder place) k ns) ≤ k
climbs_most place k ns = go (leb k (length (holder place))) refl
  where
    go : (t : Bool) → leb k (length (holder place)) ≡ t → length (holder place) - common_prefix (holder place) (names_up (holder place) k ns) ≤ k
    go true e = path_written.deepest place k ns (leb-true k (length (holder place)) e)
    go false e = omega (arith, leb-false k (length (holder place)) e)

path_fewer : {known : List ℕ} (place : Place) (w : Written) → Has known (holder place) → Fewer known (path_symbols w) (path_symbols (rewritten_path place w))
unfolding path_symbols resolve_path written_path names_up
path_fewer place (Written.self ns) h = all_kept (mark Fixed.self ∷ dotted_symbols ns)
path_fewer place (Written.up k ns) h =
    let l = left_out (holder place) ns (length (holder place) - k) in
    keep (mark Fixed.up) (both (climbs_fewer k _ (climbs_most place k ns)) (rw l.names (names_fewer l.many ns (λ n i. h n (l.known n i)))))

-- ---- The tree

code_holder : {known : List ℕ} (place : Place) → Has known (holder place) → Has known (holder (within_code place))
unfolding holder within_code
code_holder (outside_code ns) h = h
code_holder (in_code ns) h = h

slot_holder : {known : List ℕ} (n : ℕ) (place : Place) → Has known (holder place) → Has (n ∷ known) (holder (within_slot n place))
unfolding holder within_slot
slot_holder n (outside_code ns) h m i = cases ns (λ j. later (h m j)) (only m) i
  where
    only : {known : List ℕ} (m : ℕ) → m ∈ (n ∷ []) → m ∈ (n ∷ known)
    only m here = here
    only m (later j) = none j
slot_holder n (in_code ns) h m i = later (h m i)

slot_fewer : {known : List ℕ} (n : ℕ) {ts us vs ws : List Symbol} → Fewer (n ∷ known) ts us → Fewer (n ∷ known) vs ws →
    Fewer known (Symbol.name n ∷ mark Fixed.assign ∷ ts ++ vs) (Symbol.name n ∷ mark Fixed.assign ∷ us ++ ws)
slot_fewer n x y = named n (keep (mark Fixed.assign) (both x y))

mutual
  unfolding base_symbols rewritten_base

  base_fewer : {known : List ℕ} (place : Place) (b : Base Written) → Has known (holder place) →
      Fewer known (base_symbols b) (base_symbols (rewritten_base place b))
  base_fewer place (Base.integer z) h = all_kept (Symbol.integer z ∷ [])
  base_fewer place (Base.string k) h = all_kept (Symbol.string k ∷ [])
  base_fewer place (Base.path w) h = path_fewer place w h
  base_fewer place (Base.code k is) h =
      keep (Symbol.code k) (keep (mark Fixed.open_curly) (both (code_fewer (within_code place) is (code_holder place h)) (all_kept (mark Fixed.close_curly ∷ []))))

  expression_fewer : {known : List ℕ} (place inner : Place) (e : Expression Written) → Has known (holder place) → Has known (holder inner) →
      Fewer known (expression_symbols e) (expression_symbols (rewritten_expression place inner e))
  expression_fewer place inner (Expression.base b) h g = base_fewer place b h
  expression_fewer place inner (Expression.not b) h g = keep (mark Fixed.bang) (base_fewer place b h)
  expression_fewer place inner (Expression.operation o a b) h g = both (base_fewer place a h) (keep (mark (Fixed.operator o)) (base_fewer place b h))
  expression_fewer place inner (Expression.frame ss) h g =
      keep (mark Fixed.frame) (keep (mark Fixed.colon) (keep (mark Fixed.open_square)
      (both (slots_fewer inner ss g) (all_kept (mark Fixed.close_square ∷ [])))))

  slots_fewer : {known : List ℕ} (place : Place) (ss : Slots Written) → Has known (holder place) →
      Fewer known (slots_symbols ss) (slots_symbols (rewritten_slots place ss))
  slots_fewer place Slots.no_slots h = nothing
  slots_fewer place (Slots.slot n e ss) h =
      slot_fewer n (expression_fewer place (within_slot n place) e (λ m i. later (h m i)) (slot_holder n place h)) (further_fewer place ss (λ m i. later (h m i)))

  further_fewer : {known : List ℕ} (place : Place) (ss : Slots Written) → Has known (holder place) →
      Fewer known (further_symbols ss) (further_symbols (rewritten_slots place ss))
  further_fewer place Slots.no_slots h = nothing
  further_fewer place (Slots.slot n e ss) h =
      keep (mark Fixed.comma)
      (slot_fewer n (expression_fewer place (within_slot n place) e (λ m i. later (h m i)) (slot_holder n place h)) (further_fewer place ss (λ m i. later (h m i))))

  instruction_fewer : {known : List ℕ} (place : Place) (i : Instruction Written) → Has known (holder place) →
      Fewer known (instruction_symbols i) (instruction_symbols (rewritten_instruction place i))
  instruction_fewer place (Instruction.assign w e) h = both (path_fewer place w h) (keep (mark Fixed.assign) (expression_fewer place place e h h))
  instruction_fewer place (Instruction.show a) h = keep (mark Fixed.show) (base_fewer place a h)
  instruction_fewer place (Instruction.jump a b) h = keep (mark Fixed.jump) (both (base_fewer place a h) (base_fewer place b h))
  instruction_fewer place (Instruction.ifeq a b c) h =
      keep (mark Fixed.ifeq) (both (both (base_fewer place a h) (base_fewer place b h)) (base_fewer place c h))

  code_fewer : {known : List ℕ} (place : Place) (is : Code Written) → Has known (holder place) →
      Fewer known (code_symbols is) (code_symbols (rewritten_code place is))
  code_fewer place Code.finished h = nothing
  code_fewer place (i then is) h = both (instruction_fewer place i h) (keep (mark Fixed.semicolon) (code_fewer place is h))

pub fewer_symbols : FewerSymbols
unfolding holder base_symbols frame_symbols rewritten_base
fewer_symbols ss =
    let us = frame_symbols (rewritten_slots program_place ss) in
    let x = expression_fewer program_place program_place (Expression.frame ss) (λ n i. i) (λ n i. i) in
    rw (← append-nil (frame_symbols ss), ← append-nil us) (x.before [] (λ n i. i) [] [] (λ after g. Without.end))
