-- Document 02, A1: what write gives of memories that load made loads again, into the same words. Assumes nothing.
use mathlib.Core.Path.{◌≡◌, refl, sym, ap, ap₂, ◌∙◌, subst}
use mathlib.Core.Logic.{◌≢◌}
use mathlib.Core.Bool.{Bool, true, false, true≢false}
use mathlib.Core.List.{List, [], ◌++◌}
use mathlib.Core.Option.{some}
use Prim.Native.Nat.{ℕ, ◌≤◌, ◌<◌}
use native.Mathlib.Omega.{arith}
use native.Mathlib.Decide.{dec_le}
use lib.ListN.{length, take, drop}
use lib.Seq.{take-append_seam}
use Rattle.framed.specs.declared.LoadAnswer.{LoadAnswer}
use Rattle.framed.specs.declared.WriteAnswer.{WriteAnswer}
use Rattle.framed.specs.Meaning.{right_lengths, refusal}
use Rattle.framed.specs.Program.{Program, program}
use Rattle.framed.specs.Writer.{text}
use Rattle.framed.specs.Demands.{Memories, lengths, Loading, Writing, LentCall, memories_after, WrittenLoads}
use Rattle.framed.proofs.Accepted.{accepted}
use Rattle.tables.specs.Fields.{frame_limit, text_limit}
use Rattle.trees.specs.Held.{program_held}
use Rattle.load.specs.Load.{load_call, loaded}
use Rattle.load.proofs.Laws.{call_loads, holds_start}
use Rattle.write.specs.Write.{writing, text_written, write_call}
use Rattle.write.proofs.Laws.{call_writes, call_fits, too_long}
use Rattle.write.proofs.Answers.{in_front, call_told}
use Rattle.write_loads.specs.Theorems.{TextLoads}
use Rattle.write_loads.proofs.Loads.{accepted_text_loads, text_short}
use Rattle.lent_machine.specs.Machine.{Formed}
use Rattle.lent_machine.proofs.Calls.{follows_calls}
use Rattle.demands.specs.Machine.{write_lent, other_calls, machine}

-- memories that hold the program q and the limits F and T
record Holds (q : Program) (F T : ℕ) (m : Memories) : Type 0 where
  well_formed : Formed m
  program_is : program_held m.program m.literal ≡ q
  F_is : frame_limit m.program ≡ F
  T_is : text_limit m.program ≡ T

-- the answer is 20
abbrev is_20 : WriteAnswer → Bool
is_20 (WriteAnswer.Written n) = false
is_20 WriteAnswer.NotWellFormed = true
is_20 WriteAnswer.ShortBuffer = false

-- what is written of them
module _ {q : Program} {F T : ℕ} {m : Memories} (h : Holds q F T m) (buffer : List ℕ) where
  abbrev call : Writing
  call = write_call m.program m.heap m.literal m.text buffer

  text_is : text (program_held m.program m.literal) ≡ text q
  text_is = ap text h.program_is

  fits : length (text q) ≤ length buffer → call ≡ writing (WriteAnswer.Written (length (text q))) (in_front (text q) buffer)
  fits le =
      subst (λ (bs : List ℕ). length bs ≤ length buffer → call ≡ writing (WriteAnswer.Written (length bs)) (in_front bs buffer)) text_is
      (call_fits m.program m.heap m.literal m.text buffer h.well_formed) le

  short : length buffer < length (text q) → call ≡ writing WriteAnswer.ShortBuffer buffer
  short lt =
      call_writes m.program m.heap m.literal m.text buffer h.well_formed
      ∙ subst (λ (bs : List ℕ). length buffer < length bs → text_written bs buffer ≡ writing WriteAnswer.ShortBuffer buffer) (sym text_is)
      (too_long _ buffer) (rw text_is lt)

  never_20 : call.answer ≢ WriteAnswer.NotWellFormed
  never_20 e = go (dec_le (length (text q)) (length buffer))
    where
      not_20 : {x : Writing} → call ≡ x → is_20 x.answer ≡ false → ⊥
      not_20 f g = true≢false (sym (ap is_20 e) ∙ ap (λ (y : Writing). is_20 y.answer) f ∙ g)

      go : Dec (length (text q) ≤ length buffer) → ⊥
      go (yes le) = not_20 (fits le) refl
      go (no lt) = not_20 (short (omega arith)) refl

  -- a text that was written is this one
  record Wrote (n : ℕ) : Type 0 where
    length_is : n ≡ length (text q)
    bytes_are : take n call.buffer ≡ text q

  wrote : {n : ℕ} → call.answer ≡ WriteAnswer.Written n → Wrote n
  wrote {n} e =
      let x = call_told m.program m.heap m.literal m.text buffer e in
      let bs = text (program_held m.program m.literal) in
      record {
        length_is = x.length_is ∙ ap length text_is;
        bytes_are =
            ap (λ (k : ℕ). take k call.buffer) x.length_is ∙ ap (take (length bs)) x.buffer_is ∙ take-append_seam bs (drop (length bs) buffer) ∙ text_is;
      }

-- ---- After a load

module _ (m : Memories) (source : List ℕ) (F T : ℕ) (q : Program) (z : refusal (lengths m) source F T ≡ 0) (e : program source ≡ some q) where
  -- what it leaves depends on the program and the limits alone
  leaves : (load_call m source F T).memories ≡ loaded q F T
  leaves = ap (λ (r : Loading). r.memories) (call_loads m source F T q z e)

  after : (cs : List LentCall) → Holds q F T (memories_after machine (load_call m source F T).memories cs)
  after cs =
      let h = holds_start m source F T q z e in
      let f = follows_calls other_calls cs (loaded q F T) h.well_formed in
      subst (λ (k : Memories). Holds q F T (memories_after machine k cs)) (sym leaves)
      (record {
        well_formed = f.well_formed;
        program_is = ap₂ program_held f.program_same f.literal_same ∙ h.program_is;
        F_is = ap frame_limit f.program_same ∙ h.F_is;
        T_is = ap text_limit f.program_same ∙ h.T_is;
      })

  at_once : Holds q F T (load_call m source F T).memories
  unfolding memories_after
  at_once = after []

  its_text : TextLoads F T q
  its_text = accepted_text_loads (lengths m) source F T q z e

-- what is said of the text bs, loaded into k: m₀ are the memories that the first load left, m₁ those that were written
abbrev Again : (m₀ m₁ k : Memories) (F T n : ℕ) → List ℕ → Type 0
Again m₀ m₁ k F T n bs =
    ((load_call k bs F T).answer ≡ LoadAnswer.Loaded)
    × (machine.program_in (load_call k bs F T).memories ≡ machine.program_in m₁)
    × (machine.F_in (load_call k bs F T).memories ≡ machine.F_in m₁)
    × (machine.T_in (load_call k bs F T).memories ≡ machine.T_in m₁)
    × ((load_call k bs F T).memories ≡ m₀)
    × ((ds : List LentCall) (other : List ℕ) → n ≤ length other →
    machine.write (memories_after machine (load_call k bs F T).memories ds) other ≡ writing (WriteAnswer.Written n) (bs ++ drop n other))

loads_again : (m : Memories) (source : List ℕ) (F T : ℕ) (cs : List LentCall) (buffer : List ℕ) (n : ℕ) (k : Memories) (q : Program) →
    refusal (lengths m) source F T ≡ 0 → program source ≡ some q →
    (machine.write (memories_after machine (load_call m source F T).memories cs) buffer).answer ≡ WriteAnswer.Written n → n ≤ 16384 →
    right_lengths (lengths k) ≡ true →
    Again (load_call m source F T).memories (memories_after machine (load_call m source F T).memories cs) k F T n
    (take n (machine.write (memories_after machine (load_call m source F T).memories cs) buffer).buffer)
unfolding write_lent
loads_again m source F T cs buffer n k q z e answer few right =
    let h = after m source F T q z e cs in
    let t = its_text m source F T q z e in
    let w = wrote h buffer answer in
    let l = w.length_is in
    let z' : refusal (lengths k) (text q) F T ≡ 0 = t.accepted (lengths k) right (omega arith) in
    let h₀ = at_once k (text q) F T q z' t.same_program in
    subst (Again (load_call m source F T).memories (memories_after machine (load_call m source F T).memories cs) k F T n) (sym w.bytes_are) (
      ap (λ (r : Loading). r.answer) (call_loads k (text q) F T q z' t.same_program),
      h₀.program_is ∙ sym h.program_is,
      h₀.F_is ∙ sym h.F_is,
      h₀.T_is ∙ sym h.T_is,
      leaves k (text q) F T q z' t.same_program ∙ sym (leaves m source F T q z e),
      λ ds other room.
          fits (after k (text q) F T q z' t.same_program ds) other (omega arith)
          ∙ ap (λ (j : ℕ). writing (WriteAnswer.Written j) (text q ++ drop j other)) (sym l),
    )

pub written_loads : WrittenLoads machine
unfolding write_lent
written_loads = record {
  again = λ m source F T cs buffer n k z answer few right.
      let a = accepted (lengths m) source F T z in
      loads_again m source F T cs buffer n k a.0 z a.1 answer few right;
  always_fits = λ m source F T cs buffer z room.
      let a = accepted (lengths m) source F T z in
      let s = (text_short (lengths m) source F T a.0 z a.1).1 in
      (length (text a.0), ap (λ (x : Writing). x.answer) (fits (after m source F T a.0 z a.1 cs) buffer (omega arith)));
  never_not_well_formed = λ m source F T cs buffer z refused.
      let a = accepted (lengths m) source F T z in
      never_20 (after m source F T a.0 z a.1 cs) buffer refused;
}
