-- What each way through load gives, exactly and in its meaning. Assumes nothing.
use mathlib.Core.Path.{◌≡◌, refl, sym, ap, ◌∙◌, subst}
use mathlib.Core.Logic.{◌≢◌}
use mathlib.Core.List.{List}
use mathlib.Core.Option.{some}
use Prim.Native.Nat.{ℕ, zero, suc}
use native.Mathlib.Omega.{arith}
use lib.ListN.{length}
use Rattle.framed.specs.declared.LoadAnswer.{LoadAnswer}
use Rattle.framed.specs.Answers.{load_number}
use Rattle.framed.specs.Meaning.{refusal}
use Rattle.framed.specs.Program.{Program, program}
use Rattle.framed.specs.Demands.{Memories, lengths}
use Rattle.framed.proofs.Accepted as framed
use Rattle.shapes.proofs.Accepted.{accepted_shaped}
use Rattle.emission.specs.Emit.{cleared, program_words, literal_bytes}
use Rattle.emission_tree.proofs.Whole.{program_at}
use Rattle.emission_accepted.proofs.Kept.{accepted_kept}
use Rattle.limits.specs.Arguments as arguments
use Rattle.check_source.specs.Numbers as check
use Rattle.accepted.specs.Accepted.{Accepted}
use Rattle.accepted.proofs.Accepted.{accepted_sources}
use Rattle.accepted.proofs.Constant.{accepted_written}
use Rattle.emit_program.specs.Written.{CanEmit, Emitted}
use Rattle.start_state.specs.Start.{CanStart, Starts}
use Rattle.start_held.specs.Starts.{StartHeld}
use Rattle.start_held.proofs.Start.{starts_held}
use Rattle.load.specs.Load.{memories, loading, answer_of, loaded, loading_of, loading_by, load_call, HoldsStart, LoadMeans, CanInstall, Installed}

-- ---- The program of an accepted source

module _ (m : Memories) (source : List ℕ) (F T : ℕ) (q : Program) (re : refusal (lengths m) source F T ≡ 0) (pr : program source ≡ some q) where
  accepted : Accepted (lengths m) source F T q
  accepted = accepted_sources (lengths m) source F T q re pr

  start_held : StartHeld (program_words q F T) (literal_bytes q) q
  start_held =
      let k = accepted_kept (lengths m) source F T q re pr in
      let h = accepted_shaped (lengths m) source F T q re pr in
      starts_held (program_words q F T) (literal_bytes q) q (record {
        program = k.whole;
        decodes = k.decodes.program;
        shaped = h;
        codes_are = (program_at q F T h).header.codes_are;
        written = rw k.decodes.F_limit (accepted_written (lengths m) source F T q accepted);
      })

  pub holds_start : HoldsStart q F T (loaded q F T)
  unfolding loaded
  holds_start =
      let k = accepted_kept (lengths m) source F T q re pr in
      record {
        well_formed = record { program = k.whole; state = start_held.formed };
        program_is = k.decodes.program;
        F_is = k.decodes.F_limit;
        T_is = k.decodes.T_limit;
        unmarked = start_held.unmarked;
        at_start = start_held.alike;
        no_renaming = start_held.no_renaming;
      }

-- what is kept of a source that loads
pub loaded_kept : (r : LoadAnswer) (v : ℕ) (c source b e o : List ℕ) (n m : ℕ) → load_number r ≡ v → check.KeptAt v c source b e o n m → r ≡ LoadAnswer.Loaded → check.KeptAll c source b e o n m
loaded_kept r v c source b e o n m a k q = k.is (sym a ∙ ap load_number q)

-- ---- install

module _ (source : List ℕ) (F T : ℕ) (p h l x : List ℕ) (can : CanInstall (memories p h l x) source F T) where
  abbrev has : (q : Program) × (program source ≡ some q)
  has = framed.accepted (lengths (memories p h l x)) source F T can.accepted

  abbrev here : Accepted (lengths (memories p h l x)) source F T has.0
  here = accepted (memories p h l x) source F T has.0 can.accepted has.1

  pub install_can_emit : CanEmit source p l
  unfolding lengths
  install_can_emit = record { short = record { short = here.arguments.short }; program_size = here.arguments.program_size; literal_size = here.arguments.literal_size }

  module _ (p₁ l₁ h₁ x₁ : List ℕ) (e : Emitted source F T p₁ l₁) (eh : h₁ ≡ cleared (length h)) (ex : x₁ ≡ cleared (length x)) where
    pub install_can_start : CanStart p₁ l₁ h₁ x₁
    unfolding lengths
    install_can_start =
        let w = e.words (lengths (memories p h l x)) has.0 can.accepted has.1 in
        let y = e.bytes (lengths (memories p h l x)) has.0 can.accepted has.1 in
        let a : h₁ ≡ cleared 16384 = eh ∙ ap cleared here.arguments.heap_size in
        let b : x₁ ≡ cleared 16384 = ex ∙ ap cleared here.arguments.text_size in
        rw (w, y, a, b)
        (start_held (memories p h l x) source F T has.0 can.accepted has.1).can_start

    pub install_done : (h₂ x₂ : List ℕ) → Starts p₁ l₁ h₂ x₂ → Installed source F T (memories p₁ h₂ l₁ x₂)
    unfolding loaded
    install_done h₂ x₂ s = record {
      is = λ q pr.
          let w = e.words (lengths (memories p h l x)) q can.accepted pr in
          let y = e.bytes (lengths (memories p h l x)) q can.accepted pr in
          rw (s.heap_is, s.text_cleared, w, y);
    }

-- ---- load

pub answer_number : (r : LoadAnswer) → answer_of (load_number r) ≡ r
unfolding answer_of
answer_number LoadAnswer.Loaded = refl
answer_number LoadAnswer.MemoryLength = refl
answer_number LoadAnswer.LimitRange = refl
answer_number LoadAnswer.SourceLength = refl
answer_number LoadAnswer.NoToken = refl
answer_number LoadAnswer.Nesting = refl
answer_number LoadAnswer.NotOneFrame = refl
answer_number LoadAnswer.OutsideCode = refl
answer_number LoadAnswer.BadFrame = refl
answer_number LoadAnswer.CountLimit = refl
answer_number LoadAnswer.AboveProgram = refl
answer_number LoadAnswer.NoStart = refl
answer_number LoadAnswer.WrittenFrames = refl

-- a number that refuses
pub call_refused : (m : Memories) (source : List ℕ) (F T : ℕ) (r : LoadAnswer) → load_number r ≡ refusal (lengths m) source F T → refusal (lengths m) source F T ≢ 0 → load_call m source F T ≡ loading r m
unfolding load_call loading_by
call_refused m source F T r e ne = go (refusal (lengths m) source F T) (sym e) ne
  where
    go : (n : ℕ) → n ≡ load_number r → n ≢ 0 → loading_by n m source F T ≡ loading r m
    go zero q n0 = absurd (n0 refl)
    go (suc n) q n0 = ap (λ (a : LoadAnswer). loading a m) (ap answer_of q ∙ answer_number r)

pub call_loads : (m : Memories) (source : List ℕ) (F T : ℕ) (q : Program) → refusal (lengths m) source F T ≡ 0 → program source ≡ some q → load_call m source F T ≡ loading LoadAnswer.Loaded (loaded q F T)
unfolding load_call loading_by loading_of
call_loads m source F T q e pr = rw (e, pr)

-- the answer of the check
module _ (source : List ℕ) (F T : ℕ) (p h l x : List ℕ) (r : LoadAnswer) (checked : load_number r ≡ refusal (arguments.lengths (length p) (length h) (length l) (length x)) source F T) where
  e : load_number r ≡ refusal (lengths (memories p h l x)) source F T
  unfolding lengths
  e = checked

  pub load_can_install : r ≡ LoadAnswer.Loaded → CanInstall (memories p h l x) source F T
  load_can_install q = record { accepted = sym e ∙ ap load_number q }

  module _ (o : (r ≡ LoadAnswer.Loaded → ⊥)) where
    refuses : refusal (lengths (memories p h l x)) source F T ≢ 0
    refuses z = go r o (e ∙ z)
      where
        go : (a : LoadAnswer) → (a ≡ LoadAnswer.Loaded → ⊥) → load_number a ≡ 0 → ⊥
        go LoadAnswer.Loaded o z = (o refl)
        go LoadAnswer.MemoryLength o z = omega arith
        go LoadAnswer.LimitRange o z = omega arith
        go LoadAnswer.SourceLength o z = omega arith
        go LoadAnswer.NoToken o z = omega arith
        go LoadAnswer.Nesting o z = omega arith
        go LoadAnswer.NotOneFrame o z = omega arith
        go LoadAnswer.OutsideCode o z = omega arith
        go LoadAnswer.BadFrame o z = omega arith
        go LoadAnswer.CountLimit o z = omega arith
        go LoadAnswer.AboveProgram o z = omega arith
        go LoadAnswer.NoStart o z = omega arith
        go LoadAnswer.WrittenFrames o z = omega arith

    pub refused_exact : load_call (memories p h l x) source F T ≡ loading r (memories p h l x)
    refused_exact = call_refused (memories p h l x) source F T r e refuses

    pub refused_means : LoadMeans (memories p h l x) source F T r (memories p h l x)
    refused_means = record { number = e; refused = λ n. refl; loads = λ z. absurd (refuses z) }

  module _ (q : r ≡ LoadAnswer.Loaded) (p' h' l' x' : List ℕ) (i : Installed source F T (memories p' h' l' x')) where
    abbrev none_refuses : refusal (lengths (memories p h l x)) source F T ≡ 0
    none_refuses = sym e ∙ ap load_number q

    abbrev its : (q : Program) × (program source ≡ some q)
    its = framed.accepted (lengths (memories p h l x)) source F T none_refuses

    pub loaded_exact : load_call (memories p h l x) source F T ≡ loading LoadAnswer.Loaded (memories p' h' l' x')
    loaded_exact = call_loads (memories p h l x) source F T its.0 none_refuses its.1 ∙ ap (loading LoadAnswer.Loaded) (sym (i.is its.0 its.1))

    pub loaded_means : LoadMeans (memories p h l x) source F T LoadAnswer.Loaded (memories p' h' l' x')
    loaded_means = record {
      number = sym none_refuses;
      refused = λ n. absurd (n none_refuses);
      loads = λ z. record {
        its_program = its.0;
        program_is = its.1;
        held = subst (λ (m : Memories). HoldsStart its.0 F T m) (sym (i.is its.0 its.1)) (holds_start (memories p h l x) source F T its.0 none_refuses its.1);
      };
    }
