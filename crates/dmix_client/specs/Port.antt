-- What a port did for a client: what it loaded and placed, what it kept, and how a commit ended there.
use Rattle.std.specs.Prelude.{◌≡◌, ℕ, ◌+◌, ◌<◌, ◌≤◌, true, false, ℤ, List, [], Option, None, Some, IfNone, IfSome, ⊤, All, slice_index, unwrap_or}
use Rattle.std.specs.Option.{option_to_list}
use Rattle.snd_base.specs.declared.geometry.Geometry.{Geometry}
use Rattle.snd_base.specs.Places.{IsFrom, IsWithin}
use Rattle.mix_core.specs.declared.gate.Gate as gates
use Rattle.mix_core.specs.declared.gate.Pass.{Pass}
use Rattle.mix_core.specs.declared.gate.Pass.TheVariants.{Stop}
use Rattle.mix_core.specs.declared.port.Ended.{Ended}
use Rattle.mix_core.specs.declared.port.Ended.TheVariants.{Whole, Late, Stopped}
use Rattle.mix_core.specs.declared.port.Entry.{Entry}
use Rattle.mix_core.specs.declared.port.MixPort as mixport
use Rattle.mix_core.specs.declared.port.Position.{Position}
use Rattle.mix_core.specs.Gate.{stops_after}
use Rattle.mix_core.specs.Port.{IsPast, OnLate, OnWhole, PortView, pass_of_end}
use Rattle.bindings.specs.Bound.{AreBindings, rising}
use Rattle.pcm_states.specs.declared.states.State.{State}
use Rattle.pcm_states.specs.declared.states.State.TheVariants.{Running, Draining}
use Rattle.pcm_states.specs.declared.calls.Call.{Call}
use Rattle.pcm_states.specs.declared.calls.Call.TheVariants.{Sync, Transfer, Drain}
use Rattle.dmix_client.specs.declared.commit.Commit.{Commit}
use Rattle.dmix_client.specs.declared.stream.PlaybackStream.{PlaybackStream}
use Rattle.dmix_client.specs.Calls.{Answered, commit_entries, end_channel, end_of_commit}
use Rattle.pcm_stream.specs.Status.{is_moving}

-- the gate's count of stops rose by one where some steps ended at a stop, and else it stayed
abbrev pub CountsEnd : Ended → ℕ → ℕ → Type 0
CountsEnd ended before after = after ≡ stops_after (pass_of_end ended) before

-- how far some steps got: to their end, or before it
abbrev pub IsUpTo : Ended → ℕ → ℕ → Type 0
IsUpTo Whole done all = done ≡ all
IsUpTo (Late word) done all = done < all
IsUpTo Stopped done all = done < all

-- a commit that was to place so many whole frames of so many channels
abbrev pub IsCommit : Ended → ℕ → ℕ → ℕ → ℕ → Type 0
IsCommit Whole frames part count channels = (frames ≡ count) × (part ≡ 0)
IsCommit (Late word) frames part count channels = (frames < count) × (part < channels)
IsCommit Stopped frames part count channels = (frames < count) × (part < channels)

-- the least card channel that is bound
abbrev pub least_channel : List ℕ → ℕ
least_channel bindings = slice_index bindings (slice_index (rising bindings) 0)

-- bindings to channels that a card has
pub record IsOnCard (bindings : List ℕ) (g : Geometry) : Type 0 where
  pub bound : AreBindings bindings
  pub below : All (λ channel. channel < g.channels) bindings

-- the calls that take the step of a stream which moves frames
abbrev pub IsFrameStep : State → Call → Type 0
IsFrameStep Running Sync = ⊤
IsFrameStep Running Transfer = ⊤
IsFrameStep Draining Sync = ⊤
IsFrameStep Draining Drain = ⊤
IsFrameStep state call = ⊥

-- a port that a client can use: it is the client's, it can add, and where the client moves frames nobody else has used
-- it since the start
pub record CanUse (c : PlaybackStream) (v : PortView) : Type 0 where
  pub same_geometry : v.geometry ≡ c.identity.geometry
  pub same_member : v.member ≡ c.identity.member
  pub can : v.can_add ≡ true
  pub behind : is_moving c.status.state ≡ true → c.status.stopped ≡ false
      → IsFrom v.marks.cursor (c.stretch.card + c.stretch.committed)
      (least_channel c.setup.bindings)
  pub newer : is_moving c.status.state ≡ true → c.status.stopped ≡ false
      → unwrap_or c.seen 0 ≤ v.seen

-- what a load and the commit after it placed, by the client at the commit
abbrev pub entries_at : Option Position → (Position → PlaybackStream) → List ℤ → Commit → List Entry
entries_at None at ring commit = []
entries_at (Some position) at ring commit = commit_entries (at position) ring commit

-- the answer to the last ask of a load and the commit after it
abbrev pub pass_of_found : Option Position → Ended → Pass
pass_of_found None ended = Stop
pass_of_found (Some position) ended = pass_of_end ended

abbrev pub CountsFound : Option Position → Ended → ℕ → ℕ → Type 0
CountsFound load ended before after = after ≡ stops_after (pass_of_found load ended) before

-- a load and the commit after it: the client `at` the commit had `count` frames to place
pub record IsFound (load : Option Position) (commit : Commit) (at : Position → PlaybackStream)
    (count : Position → ℕ) (channels : ℕ) : Type 0 where
  pub nothing : IfNone load (commit ≡ record { frames = 0; part = 0; ended = Whole })
  pub commit_is : IfSome load
      (λ (position : Position). IsCommit commit.ended commit.frames commit.part (count position)
      channels)
  pub in_time : IfSome load (λ (position : Position). 0 < commit.frames + commit.part
      → position.frame ≤ (at position).stretch.card + (at position).stretch.committed)

-- what one load and the commit after it did at a port and its gate
pub record LoadsAndCommits {S T : Type 0} (P : mixport.Ghosts S) (G : gates.Ghosts T) (s t : S × T)
    (ring : List ℤ) (at : Position → PlaybackStream) (count : Position → ℕ) (channels : ℕ)
    (load : Option Position) (commit : Commit) : Type 0 where
  pub found : IsFound load commit at count channels
  pub loaded_them : P.loaded s.0 t.0 (option_to_list load)
  pub laid_them : P.laid s.0 t.0 (entries_at load at ring commit)
  pub shown : IfSome load (λ position. OnLate commit.ended
      (λ word. IsPast P.view P.shows t.0 (end_of_commit (at position) commit)
      (end_channel (at position) commit) word))
  pub stopped : CountsFound load commit.ended (G.stops s.1) (G.stops t.1)
  pub near : IfSome load (λ position. ((P.view s.0).seen ≤ position.frame)
      × IsWithin (P.view s.0).geometry position.frame × ((P.view t.0).seen ≡ position.frame))
  pub stayed : IfSome load (λ position. IsFrom (P.view s.0).marks.cursor
      ((at position).stretch.card + (at position).stretch.committed)
      (least_channel (at position).setup.bindings)
      → OnWhole commit.ended (IsFrom (P.view t.0).marks.cursor (end_of_commit (at position) commit)
      (least_channel (at position).setup.bindings)))

-- a call made one load and the commit after it, and ended in this by what they found
pub record TakesStep {S T X : Type 0} (P : mixport.Ghosts S) (G : gates.Ghosts T) (s t : S × T)
    (ring : List ℤ) (at : Position → PlaybackStream) (count : Position → ℕ) (channels : ℕ)
    (call : Option Position → Commit → Answered X) (done : Answered X) : Type 0 where
  pub load : Option Position
  pub commit : Commit
  pub looked : LoadsAndCommits P G s t ring at count channels load commit
  pub outcome : call load commit ≡ done
