use borrow.Author.Rules.{rules}
use Rattle.framed_c.proofs.Write.{written, refused}
use Rattle.framed_c.proofs.framed_write.Goals as goal

pub returns-in_default : goal.returns-in_default
returns-in_default c =
    let called = c.write-a.ensures in
    refused _ _ _ _ _ _ _ called.exact called.meaning _ _ c.in_default.not-Written c.write_number.ensures

pub returns : goal.returns
returns c =
    let called = c.write-a.ensures in
    written _ _ _ _ _ _ _ called.exact called.meaning _ _ _ _ c.in-Written.is (search rules) c.write_number-2.ensures
