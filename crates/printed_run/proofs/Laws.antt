-- One law for each way through `write_print`, and the part that `print` answers. Assumes nothing.
use Prim.Native.Nat.{ℕ, zero, suc, ◌+◌, ◌≤◌}
use mathlib.Core.Path.{◌≡◌, refl, ◌∙◌, ap, sym, subst}
use mathlib.Core.List.{List, [], ◌∷◌, ◌++◌}
use mathlib.Core.Option.{some}
use native.Mathlib.Omega.{arith}
use lib.ListN.{length, take, drop, replicate}
use lib.Seq.{take-append_seam}
use Rattle.framed.specs.declared.LoadAnswer.{LoadAnswer}
use Rattle.framed.specs.declared.RunAnswer.{RunAnswer}
use Rattle.framed.specs.declared.RunReport.{RunReport}
use Rattle.framed.specs.declared.CollectAnswer.{CollectAnswer}
use Rattle.framed.specs.declared.Totals.{Totals}
use Rattle.framed.specs.Meaning.{Lengths, refusal}
use Rattle.framed.specs.Program.{Program, program}
use Rattle.framed.specs.Answers.{load_number, run_report, collect_report}
use Rattle.framed.specs.Framerun.{right_memories, number, stop_bytes, last_line, printed, framerun}
use Rattle.framed.specs.Common.{bytes}
use Rattle.load.specs.Load.{memories, Loads, LoadMeans}
use Rattle.run.specs.Run.{RunMeans}
use Rattle.collect.specs.Collect.{collecting, collect_call}
use Rattle.lent_machine.proofs.Reports.{report_kind, stop_in, steps_of, bytes_of, frames_of, texts_of}
use Rattle.splice.proofs.Laws.{splice_fits}
use Rattle.printing.specs.Lines.{refused_line, counts_line, end_line, ran_lines, Appends}
use Rattle.printed_run.specs.Longest.{longest}
use Rattle.printed_run.proofs.Reports.{zeros, right, run_of, ran_report, totals_report, RanFromStart, ran_from_start, collected_after}
use Rattle.printed_run.proofs.Longest.{longest_print}

-- ---- What is printed

-- by the number that refuses
print_by : List ℕ → ℕ → List ℕ
print_by source zero = printed (program source)
print_by source (suc n) = refused_line (suc n)

framerun_by : (source : List ℕ) (k : ℕ) → refusal right_memories source 256 256 ≡ k → framerun source ≡ print_by source k
unfolding framerun print_by refused_line
framerun_by source zero e = rw (framerun, e)
framerun_by source (suc k) e = rw (framerun, e)

-- the whole run
print_loaded : (source : List ℕ) (q : Program) → refusal right_memories source 256 256 ≡ 0 → program source ≡ some q →
    framerun source ≡ (run_of q).bytes ++ last_line (run_of q)
unfolding print_by printed
print_loaded source q z e = framerun_by source 0 z ∙ ap printed e

-- ---- write_print

module _ {source : List ℕ} {a : LoadAnswer} {p h l t : List ℕ} {n : ℕ} (means : LoadMeans zeros source 256 256 a (memories p h l t)) (is : n ≡ load_number a) where
  number_is : n ≡ refusal right_memories source 256 256
  number_is = is ∙ means.number ∙ ap (λ (m : Lengths). refusal m source 256 256) right

  pub prints_refused : {out out' : List ℕ} {r : ℕ} → (n ≡ 0 → ⊥) → Appends out 0 (refused_line n) out' r → Appends out 0 (framerun source) out' r
  unfolding refused_line print_by
  prints_refused {out} {out'} {r} ne w = subst (λ (bs : List ℕ). Appends out 0 bs out' r) (go n number_is ne) w
    where
      go : (k : ℕ) → k ≡ refusal right_memories source 256 256 → (k ≡ 0 → ⊥) → refused_line k ≡ framerun source
      go zero e z = absurd (z refl)
      go (suc k) e z = sym (framerun_by source (suc k) (sym e))

  module _ (none : n ≡ 0) {x : RunAnswer} {h₂ t₂ shown : List ℕ} (run_means : RunMeans p h l t 100000 (replicate 4096 0) x h₂ t₂ shown) where
    loads : Loads source 256 256 (memories p h l t)
    loads = means.loads (ap (λ (m : Lengths). refusal m source 256 256) right ∙ sym number_is ∙ none)

    abbrev q : Program
    q = loads.its_program

    follows : RanFromStart q p l x h₂ t₂ shown
    follows = ran_from_start q p h l t loads.held x h₂ t₂ shown run_means

    -- the run is not refused
    pub never_refused : ((k : RunReport) → x ≡ RunAnswer.Stopped k → ⊥) → ⊥
    unfolding report_kind
    never_refused k = go x k follows.reported
      where
        go : (y : RunAnswer) → ((k : RunReport) → y ≡ RunAnswer.Stopped k → ⊥) → run_report y shown ≡ ran_report q → ⊥
        go (RunAnswer.Stopped r) k e = (k r refl)
        go RunAnswer.NotWellFormed k e = let z : ◌≡◌ {A = ℕ} 2 0 = ap report_kind e in omega arith

    module _ {y : CollectAnswer} {h₃ : List ℕ} (collects : collect_call p h₂ l t₂ ≡ collecting y h₃) where
      -- nor is the collect
      pub never_uncollected : ((k : Totals) → y ≡ CollectAnswer.Collected k → ⊥) → ⊥
      unfolding report_kind
      never_uncollected k = go y k (collected_after follows y h₃ collects)
        where
          go : (z : CollectAnswer) → ((k : Totals) → z ≡ CollectAnswer.Collected k → ⊥) → collect_report z ≡ totals_report q → ⊥
          go (CollectAnswer.Collected t) k e = (k t refl)
          go CollectAnswer.NotWellFormed k e = let z : ◌≡◌ {A = ℕ} 2 1 = ap report_kind e in omega arith

      module _ {report : RunReport} {totals : Totals} (stopped : x ≡ RunAnswer.Stopped report) (collected : y ≡ CollectAnswer.Collected totals) where
        lines_are : ran_lines shown report totals ≡ (run_of q).bytes ++ last_line (run_of q)
        unfolding ran_lines end_line counts_line last_line stop_in steps_of bytes_of frames_of texts_of
        lines_are =
            let ran : run_report (RunAnswer.Stopped report) shown ≡ ran_report q = ap (λ (z : RunAnswer). run_report z shown) (sym stopped) ∙ follows.reported in
            let counted : collect_report (CollectAnswer.Collected totals) ≡ totals_report q = ap collect_report (sym collected) ∙ collected_after follows y h₃ collects in
            λ i. ap bytes_of ran i
            ++ (bytes "end " ++ (stop_bytes (ap stop_in ran i) ++ (bytes " steps " ++ (number (ap steps_of ran i)
            ++ (bytes " frames " ++ (number (ap frames_of counted i) ++ (bytes " texts " ++ (number (ap texts_of counted i) ++ (10 ∷ [])))))))))

        pub prints_ran : {out out' : List ℕ} {r : ℕ} → Appends out 0 (ran_lines shown report totals) out' r → Appends out 0 (framerun source) out' r
        prints_ran {out} {out'} {r} w =
            subst (λ (bs : List ℕ). Appends out 0 bs out' r)
            (lines_are ∙ sym (print_loaded source q (sym number_is ∙ none) loads.program_is)) w

-- ---- print

-- the part that the print takes of a buffer that is long enough
pub part_printed : (source out out' : List ℕ) (n : ℕ) → longest ≤ length out → Appends out 0 (framerun source) out' n → take n out' ≡ framerun source
part_printed source out out' n room w =
    let few = longest_print source in
    let size : n ≡ length (framerun source) = let b = w.behind in omega arith in
    let fits : 0 + length (framerun source) ≤ length out = omega arith in
    rw (w.written, size, splice_fits out 0 (framerun source) fits) (take-append_seam (framerun source) (drop (0 + length (framerun source)) out))
