-- Parts of a list that are cut at its end where they would go past it.
use Rattle.std.proofs.Common.{◌≡◌, ℕ, List, length, min, take, drop, ap, ◌∙◌}
use Rattle.std.proofs.lemmas.List.{drop_min, take_min}
