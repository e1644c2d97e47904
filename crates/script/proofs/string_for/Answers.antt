use Rattle.script.proofs.Laws.{string_as}
use Rattle.script.proofs.string_for.Goals as goal

pub returns-in-LoadFile : goal.returns-in-LoadFile
returns-in-LoadFile c = search string_as

pub returns-in-LoadFrames : goal.returns-in-LoadFrames
returns-in-LoadFrames c = search string_as

pub returns-in-LoadTexts : goal.returns-in-LoadTexts
returns-in-LoadTexts c = search string_as

pub returns-in-RunFuel : goal.returns-in-RunFuel
returns-in-RunFuel c = search string_as

pub returns-in-RunSpace : goal.returns-in-RunSpace
returns-in-RunSpace c = search string_as

pub returns-in-LookPath : goal.returns-in-LookPath
returns-in-LookPath c = search string_as

pub returns-in-WriteSpace : goal.returns-in-WriteSpace
returns-in-WriteSpace c = search string_as
