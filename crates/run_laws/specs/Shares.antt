-- Clients that share a card by channels (alsa-lib's dshare): each has its own.
use Rattle.std.specs.Prelude.{◌≡◌, ℕ, true, false, List, [], Option, Some, None}
use Rattle.dshare.specs.Owners.{has_channel}
use Rattle.dmix_client.specs.declared.stream.PlaybackStream.{PlaybackStream}
use Rattle.lab_lines.specs.declared.line.Item.{Item}
use Rattle.lab_lines.specs.declared.script.Share.TheVariants.{Dshare}
use Rattle.lab_run.specs.Items.{ItemsMay}
use Rattle.lab_run.specs.Stage.{Session, Stage, client_at, first_stage}

-- the card's channels of an open client
abbrev pub channels_of_client : Option PlaybackStream → List ℕ
channels_of_client None = []
channels_of_client (Some c) = c.setup.bindings

-- lists without a channel in common
abbrev pub AreApart : List ℕ → List ℕ → Type 0
AreApart channels others =
    (channel : ℕ) → has_channel channels channel ≡ true → has_channel others channel ≡ false

-- in each stage of a run of a card that is shared by channels, two clients that are open have no channel in common
abbrev pub HaveOwnChannels : Session → List Item → Stage → Type 0
HaveOwnChannels session done stage =
    session.card.share ≡ Dshare → ItemsMay session (first_stage session) done stage
    → (n m : ℕ) → (n ≡ m → ⊥)
    → AreApart (channels_of_client (client_at session stage n).1.own)
    (channels_of_client (client_at session stage m).1.own)
