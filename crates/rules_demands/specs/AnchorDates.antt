-- Dates and times as literals, apart from the definitions: what a value reads as on both sides of each rule, what a time is written as, and the names and
-- digits that the texts are made of.
use Rattle.std.specs.Prelude.{ℕ, Bool, true, false, List, [], ◌∷◌, map, ℤ, pos, negsuc}
use Rattle.std.specs.Prelude.{Option, None, Some}
use Rattle.rules_server.specs.Octets.{codes}
use Rattle.rules_server.specs.Calendar.{is_leap, bad_time, same_time}
use Rattle.rules_server.specs.Dates.{day_name, long_day_name, month_name, two_digits, four_digits, spaced_day, date_read, time_text}
use Rattle.rules_demands.specs.AnchorTables.{Entry, ◌is◌, Agree}

-- the second since 1970 that a value names, by the reference time
unfoldable pub readings : List (Entry (Option ℤ))
readings =
    -- RFC 7231's own example in its three forms
    date_read (pos 784111777) (codes "Sun, 06 Nov 1994 08:49:37 GMT") is Some (pos 784111777)
    ∷ date_read (pos 784111777) (codes "Sunday, 06-Nov-94 08:49:37 GMT") is Some (pos 784111777)
    ∷ date_read (pos 784111777) (codes "Sun Nov  6 08:49:37 1994") is Some (pos 784111777)
    -- the day of an asctime-date in two digits
    ∷ date_read (pos 784111777) (codes "Sun Nov 06 08:49:37 1994") is Some (pos 784111777)
    ∷ date_read (pos 784111777) (codes "Sun Nov 6 08:49:37 1994") is None
    ∷ date_read (pos 784111777) (codes "Tue Nov  0 08:49:37 1994") is None
    ∷ date_read (pos 784111777) (codes "Sun Nov 6  08:49:37 1994") is None
    -- the first second of 1970 and the one before, the last of 9999
    ∷ date_read (pos 0) (codes "Thu, 01 Jan 1970 00:00:00 GMT") is Some (pos 0)
    ∷ date_read (pos 0) (codes "Wed, 31 Dec 1969 23:59:59 GMT") is Some (negsuc 0)
    ∷ date_read (pos 253402300799) (codes "Fri, 31 Dec 9999 23:59:59 GMT") is Some (pos 253402300799)
    -- year 0000 is a leap year
    ∷ date_read (pos 0) (codes "Tue Feb 29 12:00:00 0000") is Some (negsuc 62162078399)
    -- 29 February in a leap year and in a common one
    ∷ date_read (pos 784111777) (codes "Tue, 29 Feb 2000 00:00:00 GMT") is Some (pos 951782400)
    ∷ date_read (pos 784111777) (codes "Thu, 29 Feb 1996 00:00:00 GMT") is Some (pos 825552000)
    ∷ date_read (pos 784111777) (codes "Thu, 29 Feb 1900 00:00:00 GMT") is None
    ∷ date_read (pos 784111777) (codes "Mon, 29 Feb 2100 00:00:00 GMT") is None
    ∷ date_read (pos 784111777) (codes "Wed, 29 Feb 1995 00:00:00 GMT") is None
    ∷ date_read (pos 784111777) (codes "Wed, 30 Feb 2000 00:00:00 GMT") is None
    -- days of a month
    ∷ date_read (pos 784111777) (codes "Sat, 30 Apr 1994 00:00:00 GMT") is Some (pos 767664000)
    ∷ date_read (pos 784111777) (codes "Tue, 31 May 1994 00:00:00 GMT") is Some (pos 770342400)
    ∷ date_read (pos 784111777) (codes "Thu, 30 Jun 1994 00:00:00 GMT") is Some (pos 772934400)
    ∷ date_read (pos 784111777) (codes "Fri, 31 Jun 1994 00:00:00 GMT") is None
    ∷ date_read (pos 784111777) (codes "Wed, 31 Aug 1994 00:00:00 GMT") is Some (pos 778291200)
    ∷ date_read (pos 784111777) (codes "Fri, 30 Sep 1994 00:00:00 GMT") is Some (pos 780883200)
    ∷ date_read (pos 784111777) (codes "Sat, 31 Sep 1994 00:00:00 GMT") is None
    ∷ date_read (pos 784111777) (codes "Sun, 31 Apr 1994 00:00:00 GMT") is None
    ∷ date_read (pos 784111777) (codes "Sat, 31 Dec 1994 00:00:00 GMT") is Some (pos 788832000)
    ∷ date_read (pos 784111777) (codes "Sun, 32 Dec 1994 00:00:00 GMT") is None
    ∷ date_read (pos 784111777) (codes "Tue, 00 Nov 1994 08:49:37 GMT") is None
    -- the clock
    ∷ date_read (pos 784111777) (codes "Sun, 06 Nov 1994 23:59:59 GMT") is Some (pos 784166399)
    ∷ date_read (pos 784111777) (codes "Sun, 06 Nov 1994 24:00:00 GMT") is None
    ∷ date_read (pos 784111777) (codes "Sun, 06 Nov 1994 08:60:00 GMT") is None
    ∷ date_read (pos 784111777) (codes "Sun, 06 Nov 1994 08:49:60 GMT") is None
    ∷ date_read (pos 784111777) (codes "Sun Nov  6 08:49:60 1994") is None
    ∷ date_read (pos 784111777) (codes "Sunday, 06-Nov-94 24:49:37 GMT") is None
    -- the day name in any form
    ∷ date_read (pos 784111777) (codes "Mon, 06 Nov 1994 08:49:37 GMT") is None
    ∷ date_read (pos 784111777) (codes "Monday, 06-Nov-94 08:49:37 GMT") is None
    ∷ date_read (pos 784111777) (codes "Mon Nov  6 08:49:37 1994") is None
    -- long day names in the second form alone
    ∷ date_read (pos 784111777) (codes "Sunday, 06 Nov 1994 08:49:37 GMT") is None
    ∷ date_read (pos 784111777) (codes "Sun, 06-Nov-94 08:49:37 GMT") is None
    ∷ date_read (pos 784111777) (codes "Sunday Nov  6 08:49:37 1994") is None
    -- letters in their case, single spaces, two digits each, GMT itself
    ∷ date_read (pos 784111777) (codes "sun, 06 Nov 1994 08:49:37 GMT") is None
    ∷ date_read (pos 784111777) (codes "Sun, 06 nov 1994 08:49:37 GMT") is None
    ∷ date_read (pos 784111777) (codes "Sun, 06 Nov 1994 08:49:37 gmt") is None
    ∷ date_read (pos 784111777) (codes "Sun,  06 Nov 1994 08:49:37 GMT") is None
    ∷ date_read (pos 784111777) (codes "Sun, 6 Nov 1994 08:49:37 GMT") is None
    ∷ date_read (pos 784111777) (codes "Sun, 06 Nov 1994 8:49:37 GMT") is None
    ∷ date_read (pos 784111777) (codes "Sun, 06 Nov 1994 08:49:37 UTC") is None
    ∷ date_read (pos 784111777) (codes "Sun, 06 Nov 1994 08:49:37") is None
    ∷ date_read (pos 784111777) (codes "Sun, 06 Nov 1994 08:49:37 GMTx") is None
    ∷ date_read (pos 784111777) (codes "Sun, 06 Nov 94 08:49:37 GMT") is None
    ∷ date_read (pos 784111777) (codes "Sun, 06 Nov 1994 08.49.37 GMT") is None
    ∷ date_read (pos 784111777) (codes " Sun, 06 Nov 1994 08:49:37 GMT") is None
    ∷ date_read (pos 784111777) (codes "") is None
    -- in the other forms too
    ∷ date_read (pos 784111777) (codes "SUNDAY, 06-Nov-94 08:49:37 GMT") is None
    ∷ date_read (pos 784111777) (codes "Sunday, 06-nov-94 08:49:37 GMT") is None
    ∷ date_read (pos 784111777) (codes "Sunday, 06-Nov-94 08:49:37 UTC") is None
    ∷ date_read (pos 784111777) (codes "xSunday, 06-Nov-94 08:49:37 GMT") is None
    ∷ date_read (pos 784111777) (codes "Sunday, 06-Nov-94 08:49:37 GMTx") is None
    ∷ date_read (pos 784111777) (codes "Sunday, 6-Nov-94 08:49:37 GMT") is None
    ∷ date_read (pos 784111777) (codes "Sunday, 06-Nov-1994 08:49:37 GMT") is None
    ∷ date_read (pos 784111777) (codes "sun Nov  6 08:49:37 1994") is None
    ∷ date_read (pos 784111777) (codes "Sun nov  6 08:49:37 1994") is None
    ∷ date_read (pos 784111777) (codes "Mon Nov 06 08:49:37 1994") is None
    ∷ date_read (pos 784111777) (codes "Sun Nov  6 08:49:37 94") is None
    ∷ date_read (pos 784111777) (codes "Sun Nov  6 08:49:37 1994 GMT") is None
    -- two digits, 50 years after the reference time to the second and one second more
    ∷ date_read (pos 1794916800) (codes "Tuesday, 17-Nov-76 12:00:00 GMT") is Some (pos 3372840000)
    ∷ date_read (pos 1794916800) (codes "Wednesday, 17-Nov-76 12:00:01 GMT") is Some (pos 217080001)
    ∷ date_read (pos 1794916800) (codes "Tuesday, 17-Nov-76 11:59:59 GMT") is Some (pos 3372839999)
    ∷ date_read (pos 1794916800) (codes "Wednesday, 17-Nov-76 12:00:00 GMT") is None
    ∷ date_read (pos 1794916800) (codes "Thursday, 18-Nov-76 00:00:00 GMT") is Some (pos 217123200)
    ∷ date_read (pos 1794916800) (codes "Saturday, 17-Oct-76 23:59:59 GMT") is Some (pos 3370204799)
    ∷ date_read (pos 1794916800) (codes "Saturday, 01-Jan-00 00:00:00 GMT") is Some (pos 946684800)
    -- the limit in a full century, to the minute
    ∷ date_read (pos 2538909030) (codes "Tuesday, 15-Jun-00 12:30:30 GMT") is Some (pos 4116745830)
    ∷ date_read (pos 2538909030) (codes "Tuesday, 15-Jun-00 12:29:59 GMT") is Some (pos 4116745799)
    ∷ date_read (pos 2538909030) (codes "Thursday, 15-Jun-00 12:31:00 GMT") is Some (pos 961072260)
    -- the limit of a reference time on 29 February is 29 February
    ∷ date_read (pos 1709164800) (codes "Wednesday, 28-Feb-74 23:59:59 GMT") is Some (pos 3287087999)
    ∷ date_read (pos 1709164800) (codes "Friday, 01-Mar-74 00:00:00 GMT") is Some (pos 131328000)
    -- the year is chosen before the day is looked at
    ∷ date_read (pos 2840140800) (codes "Tuesday, 29-Feb-00 00:00:00 GMT") is None
    ∷ date_read (pos 2840140800) (codes "Monday, 29-Feb-00 00:00:00 GMT") is None
    -- years before 1970 and behind 9999
    ∷ date_read (pos 0) (codes "Thursday, 01-Jan-20 00:00:01 GMT") is Some (negsuc 1577923198)
    ∷ date_read (pos 0) (codes "Wednesday, 01-Jan-20 00:00:00 GMT") is Some (pos 1577836800)
    ∷ date_read (pos 253402300799) (codes "Friday, 31-Dec-49 23:59:59 GMT") is Some (pos 254980223999)
    -- a reference time outside 1970 to 9999
    ∷ date_read (negsuc 0) (codes "Sun, 06 Nov 1994 08:49:37 GMT") is None
    ∷ date_read (pos 253402300800) (codes "Sun, 06 Nov 1994 08:49:37 GMT") is None
    ∷ []

-- a time in the first form
unfoldable pub writings : List (Entry (List ℕ))
writings =
    time_text (pos 0) is codes "Thu, 01 Jan 1970 00:00:00 GMT"
    ∷ time_text (pos 951782400) is codes "Tue, 29 Feb 2000 00:00:00 GMT"
    ∷ time_text (pos 784111777) is codes "Sun, 06 Nov 1994 08:49:37 GMT"
    ∷ time_text (pos 253402300799) is codes "Fri, 31 Dec 9999 23:59:59 GMT"
    ∷ time_text (pos 951868799) is codes "Tue, 29 Feb 2000 23:59:59 GMT"
    ∷ time_text (pos 4107542400) is codes "Mon, 01 Mar 2100 00:00:00 GMT"
    ∷ time_text (pos 94651200) is codes "Sun, 31 Dec 1972 12:00:00 GMT"
    ∷ time_text (pos 97402239224) is codes "Mon, 21 Jul 5056 17:33:44 GMT"
    ∷ time_text (pos 253402300800) is []
    ∷ time_text (negsuc 0) is []
    ∷ []

-- the names, from the first day of year 0000 and from January on
unfoldable pub name_tables : List (Entry (List (List ℕ)))
name_tables =
    map day_name (0 ∷ 1 ∷ 2 ∷ 3 ∷ 4 ∷ 5 ∷ 6 ∷ [])
    is (codes "Sat" ∷ codes "Sun" ∷ codes "Mon" ∷ codes "Tue" ∷ codes "Wed" ∷ codes "Thu" ∷ codes "Fri" ∷ [])
    ∷ map long_day_name (0 ∷ 1 ∷ 2 ∷ 3 ∷ 4 ∷ 5 ∷ 6 ∷ [])
    is (codes "Saturday" ∷ codes "Sunday" ∷ codes "Monday" ∷ codes "Tuesday" ∷ codes "Wednesday" ∷ codes "Thursday" ∷ codes "Friday" ∷ [])
    ∷ map month_name (1 ∷ 2 ∷ 3 ∷ 4 ∷ 5 ∷ 6 ∷ 7 ∷ 8 ∷ 9 ∷ 10 ∷ 11 ∷ 12 ∷ [])
    is (codes "Jan" ∷ codes "Feb" ∷ codes "Mar" ∷ codes "Apr" ∷ codes "May" ∷ codes "Jun" ∷ codes "Jul" ∷ codes "Aug" ∷ codes "Sep" ∷ codes "Oct" ∷ codes "Nov"
    ∷ codes "Dec" ∷ [])
    ∷ []

unfoldable pub digit_texts : List (Entry (List ℕ))
digit_texts =
    two_digits 0 is codes "00"
    ∷ two_digits 9 is codes "09"
    ∷ two_digits 10 is codes "10"
    ∷ two_digits 94 is codes "94"
    ∷ two_digits 1994 is codes "94"
    ∷ two_digits 2000 is codes "00"
    ∷ four_digits 0 is codes "0000"
    ∷ four_digits 37 is codes "0037"
    ∷ four_digits 1994 is codes "1994"
    ∷ four_digits 9999 is codes "9999"
    ∷ spaced_day 1 is codes " 1"
    ∷ spaced_day 9 is codes " 9"
    ∷ spaced_day 10 is codes "10"
    ∷ spaced_day 31 is codes "31"
    ∷ []

-- leap years; "outside 1970 to 9999"; the same second
unfoldable pub judged : List (Entry Bool)
judged =
    is_leap 0 is true
    ∷ is_leap 1600 is true
    ∷ is_leap 1900 is false
    ∷ is_leap 1970 is false
    ∷ is_leap 1996 is true
    ∷ is_leap 2000 is true
    ∷ is_leap 2026 is false
    ∷ is_leap 2100 is false
    ∷ bad_time (pos 0) is false
    ∷ bad_time (pos 253402300799) is false
    ∷ bad_time (pos 253402300800) is true
    ∷ bad_time (negsuc 0) is true
    ∷ bad_time (negsuc 784111777) is true
    ∷ bad_time (pos 9223372036854775807) is true
    ∷ bad_time (negsuc 9223372036854775807) is true
    ∷ same_time (pos 7) (pos 7) is true
    ∷ same_time (pos 7) (pos 8) is false
    ∷ same_time (pos 7) (pos 6) is false
    ∷ same_time (pos 7) (negsuc 7) is false
    ∷ same_time (negsuc 7) (pos 7) is false
    ∷ same_time (negsuc 7) (negsuc 7) is true
    ∷ same_time (negsuc 7) (negsuc 6) is false
    ∷ []

pub record DatesAre : Type 0 where
  pub readings : Agree readings
  pub writings : Agree writings
  pub name_tables : Agree name_tables
  pub digit_texts : Agree digit_texts
  pub judged : Agree judged
