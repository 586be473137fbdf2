-- `unfolding identifiers` lets `refl` compute whether a short text is an identifier.
use lib.Utf8.{encode}
use Rattle.std.specs.Str.{is_utf8, chars}
use Rattle.unicode_ident.proofs.Computing.{unicode_ident}
use Rattle.unicode_normalization.proofs.Computing.{unicode_normalization}
use Rattle.identifiers.specs.Identifiers.{is_identifier}

unfoldable pub identifiers : Unit {0}
unfolding encode chars is_utf8 unicode_ident unicode_normalization is_identifier
identifiers = tt
