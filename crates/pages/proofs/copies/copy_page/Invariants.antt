use Rattle.std.proofs.Common.{◌≡◌, take}
use Rattle.pages.proofs.copies.copy_page.Given as goal

-- the entries so far
abbrev pub invariant-loop-entry : goal.invariant-loop-entry
invariant-loop-entry g l = l.made.items ≡ take l.entry-index l.page
