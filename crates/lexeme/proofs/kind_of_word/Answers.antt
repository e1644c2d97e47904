use Rattle.lexeme.proofs.Laws.{word_frame, word_code, word_self, word_show, word_jump, word_ifeq, word_name}
use Rattle.lexeme.proofs.kind_of_word.Goals as goal

pub returns-then-is_word : goal.returns-then-is_word
returns-then-is_word c = search word_frame

pub returns-then-is_word-2 : goal.returns-then-is_word-2
returns-then-is_word-2 c = search word_code

pub returns-then-is_word-3 : goal.returns-then-is_word-3
returns-then-is_word-3 c = search word_self

pub returns-then-is_word-4 : goal.returns-then-is_word-4
returns-then-is_word-4 c = search word_show

pub returns-then-is_word-5 : goal.returns-then-is_word-5
returns-then-is_word-5 c = search word_jump

pub returns-then-is_word-6 : goal.returns-then-is_word-6
returns-then-is_word-6 c = search word_ifeq

pub returns : goal.returns
returns c = search word_name
