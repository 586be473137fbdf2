use Rattle.std.proofs.Common.{◌≡◌, map, drop, string_bytes}
use Rattle.std.specs.List.{list_all}
use Rattle.elab_components.specs.Likes.{is_like_keyword}
use Rattle.elab_components.proofs.likes.are_like_keywords.Given as goal

abbrev pub invariant-loop-keyword : goal.invariant-loop-keyword
invariant-loop-keyword l = list_all is_like_keyword (map string_bytes (drop l.keyword-index l.keywords)) ≡ list_all is_like_keyword (map string_bytes l.keywords)
