-- What a place in a method stands for.
use Rattle.jtyping.specs.jwelltyped.VerifierTests as typing
use Rattle.jverify.specs.declared.place.Place.{Place}

abbrev pub place_of : Place → typing.Place
place_of x = record { class = x.class; method = x.method; at = x.at }
