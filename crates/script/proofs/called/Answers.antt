use Rattle.script.proofs.Laws.{call_load, call_run, call_collect, call_look, call_write, call_none}
use Rattle.script.proofs.called.Goals as goal

pub returns-then-is_word : goal.returns-then-is_word
returns-then-is_word c = search call_load

pub returns-then-is_word-2 : goal.returns-then-is_word-2
returns-then-is_word-2 c = search call_run

pub returns-then-is_word-3 : goal.returns-then-is_word-3
returns-then-is_word-3 c = search call_collect

pub returns-then-is_word-4 : goal.returns-then-is_word-4
returns-then-is_word-4 c = search call_look

pub returns-then-is_word-5 : goal.returns-then-is_word-5
returns-then-is_word-5 c = search call_write

pub returns : goal.returns
returns c = search call_none
