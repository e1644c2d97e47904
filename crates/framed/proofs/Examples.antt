-- Document 01's proved examples and its printed run, and document 02's examples, by computation. Assumes nothing.
use mathlib.Core.Path.{refl}
use Rattle.framed.specs.Examples.{ProvedExamples, PrintedRun, WrittenExamples, JoinedExamples, EqualExamples, MakersExamples, Examples}

pub proved_examples : ProvedExamples
unfolding ProvedExamples Examples
proved_examples = (refl, refl, refl, refl, refl, refl, refl, refl, refl, refl, refl, refl, refl, refl, refl)

pub printed_run : PrintedRun
unfolding PrintedRun Examples
printed_run = refl

pub written_examples : WrittenExamples
unfolding WrittenExamples Examples
written_examples = (refl, refl, refl)

pub joined_examples : JoinedExamples
unfolding JoinedExamples Examples
joined_examples = (refl, refl, refl, refl, refl, refl, refl)

pub equal_examples : EqualExamples
unfolding EqualExamples Examples
equal_examples = (refl, refl, refl, refl, refl, refl, refl, refl, refl, refl, refl)

pub makers_examples : MakersExamples
unfolding MakersExamples Examples
makers_examples = (refl, refl, refl)
