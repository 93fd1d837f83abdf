-- The bytes of a work buffer.
use Rattle.std.specs.Prelude.{ℕ, List}
use Rattle.pr_session.specs.declared.work.Work.{Work}

abbrev pub bytes_of : Work → List ℕ
bytes_of w = w.bytes.items
