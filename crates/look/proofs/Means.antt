-- What look and its companion mean: `framed`'s look over what the memories hold, for every memories. Assumes nothing.
use mathlib.Core.Path.{◌≡◌, refl, sym, ap, ◌∙◌, subst}
use mathlib.Core.Logic.{◌↔◌}
use mathlib.Core.Bool.{Bool, true, false}
use mathlib.Core.List.{List, []}
use mathlib.Core.Option.{Option, none, some}
use Prim.Native.Nat.{ℕ, ◌*◌, ◌<◌}
use native.Mathlib.Omega.{arith}
use native.Mathlib.Decide.{dec_lt}
use lib.Dec.{ltb}
use lib.ListN.{get_or}
use borrow.Author.Tests.{lt-ltb, le-ltb}
use Rattle.framed.specs.declared.Text.{Text}
use Rattle.framed.specs.declared.Value.{Value}
use Rattle.framed.specs.Answers.{Look, look_word}
use Rattle.framed.specs.Bytes.{class}
use Rattle.framed.specs.Tokens.{tokens}
use Rattle.framed.specs.Tree.{Written}
use Rattle.framed.specs.Values.{text_bytes}
use Rattle.framed.specs.Calls.{read_path, look_from, maker_in, kind, look, text_in, look_text, LooksAs, LooksTextAs}
use Rattle.framed.proofs.LookJudged.{look_judged}
use Rattle.words.specs.Words.{pick}
use Rattle.tables.specs.Fields.{literals, literal_length}
use Rattle.heap.specs.Words.{maker_at, text_length}
use Rattle.heap.specs.Held.{frames_held, heap_held, texts_held}
use Rattle.texts.specs.Literals.{literals_held}
use Rattle.texts.specs.Texts.{part_of, LiteralsInside, TextsInside}
use Rattle.texts.proofs.Laws as texts
use Rattle.texts.proofs.Inside.{literals_inside, texts_inside}
use Rattle.operands.proofs.Literals.{same_literals}
use Rattle.trees.specs.Held.{program_held}
use Rattle.state_form.proofs.Facts.{well_formed_sized}
use Rattle.wellformed.specs.WellFormed.{WellFormed, well_formed}
use Rattle.wellformed.specs.Held.{state_held}
use Rattle.wellformed.proofs.Decides.{well_formed_decides}
use Rattle.look_path.specs.declared.Resolved.{Resolved}
use Rattle.look_path.specs.Resolve.{found, reached, resolved}
use Rattle.look_part.specs.declared.Part.{Part}
use Rattle.look_part.specs.Part.{no_part, literal_part, made_part, text_part, value_part, part_found, bytes_in, InMemory}
use Rattle.look.specs.Look.{kind_answer, answer, look_call, look_part, look_bytes, LookIsFetch, LookTextIsFetch}
use Rattle.look.proofs.Found.{found_maker}

-- memories are well-formed exactly where the test says so
test_false : (p h l t : List ℕ) → ¬ WellFormed p h l t → well_formed p h l t ≡ false
test_false p h l t n = go (well_formed p h l t) refl
  where
    go : (b : Bool) → well_formed p h l t ≡ b → well_formed p h l t ≡ false
    go true e = absurd (n ((well_formed_decides p h l t).0 e))
    go false e = e

-- ---- Look

kind_word : (h : List ℕ) (v : Value) → ((f : ℕ) → v ≡ Value.Frame f → maker_in (frames_held h) f ≡ maker_at h f) → look_word (kind_answer h v) ≡ kind (frames_held h) v
unfolding kind_answer kind
kind_word h (Value.Int z) m = refl
kind_word h (Value.Text x) m = refl
kind_word h (Value.Code k) m = refl
kind_word h (Value.Frame f) m = ap Look.frame (sym (m f refl))

answer_word : (p h l t text : List ℕ) → WellFormed p h l t → look_word (answer h (resolved (program_held p l) (state_held p h t) text)) ≡ look (program_held p l) (state_held p h t) text
unfolding resolved look reached answer found state_held heap_held
answer_word p h l t text formed = go (read_path (program_held p l) (tokens class text))
  where
    value : (w : Written) (o : Option Value) → look_from (state_held p h t) w ≡ o →
        look_word (answer h (found o)) ≡ (elim o [ none ↦ Look.refused 22 | some v ↦ kind (frames_held h) v ])
    value w none e = refl
    value w (some v) e = kind_word h v (λ f q. found_maker p h l t formed w f (e ∙ ap some q))

    go : (o : Option Written) →
        look_word (answer h (reached (state_held p h t) o))
        ≡ (elim o [ none ↦ Look.refused 21 | some w ↦ elim (look_from (state_held p h t) w) [ none ↦ Look.refused 22 | some v ↦ kind (frames_held h) v ] ])
    go none = refl
    go (some w) = value w (look_from (state_held p h t) w) refl

pub look_is_fetch : LookIsFetch
unfolding look_call
look_is_fetch p h l t path = record {
  refused = λ n. rw (test_false p h l t n);
  looked = λ w. same w;
  fetched = λ w x k e. subst (λ (a : Look). (a ≡ k) ↔ LooksAs (state_held p h t) x k) (sym (same w)) (look_judged.kinds (program_held p l) (state_held p h t) path x k e);
}
  where
    same : WellFormed p h l t → look_word (look_call p h l t path) ≡ look (program_held p l) (state_held p h t) path
    same w = rw ((well_formed_decides p h l t).1 w) (answer_word p h l t path w)

-- ---- The companion

no_bytes : (l t : List ℕ) → bytes_in l t no_part ≡ []
unfolding bytes_in part_of
no_bytes l t = refl

module _ (p h l t : List ℕ) (w : WellFormed p h l t) where
  -- every text lies inside its memory
  literals_in : LiteralsInside p l
  literals_in = literals_inside p l w.program.literal_size w.program.entries.limits.literals_most (λ k lt. (w.program.entries.texts.literal k lt).most)

  texts_in : TextsInside h t
  texts_in = texts_inside h t (well_formed_sized w.state) w.state.text_size

  no_part_in : InMemory l t no_part
  unfolding InMemory
  no_part_in = record { inside = omega arith }

  literal_in : (k : ℕ) → InMemory l t (literal_part p k)
  unfolding literal_part InMemory
  literal_in k = go (dec_lt k (literals p))
    where
      go : Dec (k < literals p) → InMemory l t (pick (ltb k (literals p)) (Part.Literal (64 * k) (literal_length p k)) no_part)
      go (yes lt) = rw (lt-ltb k (literals p) lt) (texts.literal_inside p l k (literals p) refl lt literals_in k (literal_length p k) (literal_length p k) refl refl refl)
      go (no n) = rw (le-ltb k (literals p) (omega arith)) no_part_in

  made_in : (k : ℕ) → InMemory l t (made_part h k)
  unfolding made_part InMemory
  made_in k = go (dec_lt k 256)
    where
      go : Dec (k < 256) → InMemory l t (pick (ltb k 256) (Part.Made (64 * k) (text_length h k)) no_part)
      go (yes lt) = rw (lt-ltb k 256 lt) (texts.made_inside h t k lt texts_in k (text_length h k) (text_length h k) refl refl refl)
      go (no n) = rw (le-ltb k 256 (omega arith)) no_part_in

  pub part_in : (x : Resolved) → InMemory l t (part_found p h x)
  unfolding part_found value_part text_part
  part_in (Resolved.Found (Value.Int z)) = no_part_in
  part_in (Resolved.Found (Value.Text (Text.Literal k))) = literal_in k
  part_in (Resolved.Found (Value.Text (Text.Made k))) = made_in k
  part_in (Resolved.Found (Value.Code k)) = no_part_in
  part_in (Resolved.Found (Value.Frame f)) = no_part_in
  part_in Resolved.Undefined = no_part_in
  part_in Resolved.NotPath = no_part_in

  -- and its bytes are those of the part
  literal_is : (k : ℕ) → bytes_in l t (literal_part p k) ≡ get_or (literals_held p l) k []
  unfolding literal_part bytes_in
  literal_is k = go (dec_lt k (literals p))
    where
      go : Dec (k < literals p) → bytes_in l t (pick (ltb k (literals p)) (Part.Literal (64 * k) (literal_length p k)) no_part) ≡ get_or (literals_held p l) k []
      go (yes lt) = rw (lt-ltb k (literals p) lt) (texts.literal_here p l k (literals p) refl lt literals_in k (literal_length p k) (literal_length p k) refl refl refl _ refl)
      go (no n) = rw (le-ltb k (literals p) (omega arith)) (no_bytes l t ∙ texts.literal_past p l k (literals p) refl (omega arith))

  made_is : (k : ℕ) → bytes_in l t (made_part h k) ≡ get_or (texts_held h t) k []
  unfolding made_part bytes_in
  made_is k = go (dec_lt k 256)
    where
      go : Dec (k < 256) → bytes_in l t (pick (ltb k 256) (Part.Made (64 * k) (text_length h k)) no_part) ≡ get_or (texts_held h t) k []
      go (yes lt) = rw (lt-ltb k 256 lt) (texts.made_here h t k lt texts_in k (text_length h k) (text_length h k) refl refl refl _ refl)
      go (no n) = rw (le-ltb k 256 (omega arith)) (no_bytes l t ∙ texts.made_past h t k (omega arith))

  value_is : (v : Value) → bytes_in l t (value_part p h v) ≡ text_in (program_held p l) (state_held p h t) v
  unfolding value_part text_part text_in text_bytes state_held heap_held
  value_is (Value.Int z) = no_bytes l t
  value_is (Value.Text (Text.Literal k)) = literal_is k ∙ ap (λ (ls : List (List ℕ)). get_or ls k []) (sym (same_literals p l))
  value_is (Value.Text (Text.Made k)) = made_is k
  value_is (Value.Code k) = no_bytes l t
  value_is (Value.Frame f) = no_bytes l t

  part_is_text : (text : List ℕ) → bytes_in l t (part_found p h (resolved (program_held p l) (state_held p h t) text)) ≡ look_text (program_held p l) (state_held p h t) text
  unfolding resolved look_text reached part_found found
  part_is_text text = go (read_path (program_held p l) (tokens class text))
    where
      value : (o : Option Value) → bytes_in l t (part_found p h (found o)) ≡ (elim o [ none ↦ [] | some v ↦ text_in (program_held p l) (state_held p h t) v ])
      value none = no_bytes l t
      value (some v) = value_is v

      go : (o : Option Written) → bytes_in l t (part_found p h (reached (state_held p h t) o)) ≡
          (elim o [ none ↦ [] | some w ↦ elim (look_from (state_held p h t) w) [ none ↦ [] | some v ↦ text_in (program_held p l) (state_held p h t) v ] ])
      go none = no_bytes l t
      go (some w) = value (look_from (state_held p h t) w)

pub look_text_is_fetch : LookTextIsFetch
unfolding look_bytes look_part
look_text_is_fetch p h l t path = record {
  refused = λ n. rw (test_false p h l t n) (no_bytes l t);
  looked = λ w. same w;
  fetched = λ w x bs e. subst (λ (a : List ℕ). (a ≡ bs) ↔ LooksTextAs (program_held p l) (state_held p h t) x bs) (sym (same w)) (look_judged.texts (program_held p l) (state_held p h t) path x bs e);
}
  where
    same : WellFormed p h l t → look_bytes p h l t path ≡ look_text (program_held p l) (state_held p h t) path
    same w = rw ((well_formed_decides p h l t).1 w) (part_is_text p h l t w path)
